use Rattle.std.proofs.Common.{◌≡◌, ◌++◌, drop, map}
use Rattle.std.specs.List.{flat_map}
use Rattle.tera_tree.specs.Infos.{arg_view}
use Rattle.tera_catalogue.specs.Listed.{listed_view}
use Rattle.tera_catalogue.specs.Objects.{parameter}
use Rattle.tera_catalogue.proofs.objects.write_parameters.Given as goal

abbrev pub invariant-loop-argument : goal.invariant-loop-argument
invariant-loop-argument l =
    let written = parameter (listed_view l.component) in
    l.initial.writer ++ flat_map written (map arg_view l.argument-items) ≡ l.writer ++ flat_map written (map arg_view (drop l.argument-index l.argument-items))
