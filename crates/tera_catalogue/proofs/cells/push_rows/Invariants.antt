use Rattle.std.proofs.Common.{◌≡◌, ◌++◌, drop, map}
use Rattle.std.specs.List.{flat_map}
use Rattle.tera_tree.specs.Infos.{arg_view}
use Rattle.tera_catalogue.specs.Pages.{row}
use Rattle.tera_catalogue.proofs.cells.push_rows.Given as goal

abbrev pub invariant-loop-argument : goal.invariant-loop-argument
invariant-loop-argument l =
    l.initial.page.items ++ flat_map row (map arg_view l.arguments) ≡ l.page.items ++ flat_map row (map arg_view (drop l.argument-index l.arguments))
