use Rattle.std.proofs.Common.{◌≡◌, ◌++◌, drop, map}
use Rattle.tera_rules.specs.Judged.{known_view}
use Rattle.tera_check.specs.Named.{defined_from, defined_in}
use Rattle.tera_tree.specs.View.{definition_view}
use Rattle.tera_catalogue.proofs.components.push_defined.Given as goal

abbrev pub invariant-loop-at : goal.invariant-loop-at
invariant-loop-at l =
    map known_view l.initial.known.items ++ defined_in l.number l.template
    ≡ map known_view l.known.items ++ defined_from l.number l.template l.at (map definition_view (drop l.at l.definition-items))
