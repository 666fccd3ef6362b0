use Rattle.std.proofs.Common.{◌≡◌, ◌++◌, drop, map, string_bytes}
use Rattle.std.specs.List.{flat_map}
use Rattle.tera_tree.specs.Infos.{arg_view}
use Rattle.tera_catalogue.specs.Offered.{attribute_of}
use Rattle.tera_catalogue.proofs.offers.push_attributes.Given as goal

abbrev pub invariant-loop-argument : goal.invariant-loop-argument
invariant-loop-argument l =
    string_bytes l.initial.call ++ flat_map attribute_of (map arg_view l.arguments) ≡ string_bytes l.call ++ flat_map attribute_of (map arg_view (drop l.argument-index l.arguments))
