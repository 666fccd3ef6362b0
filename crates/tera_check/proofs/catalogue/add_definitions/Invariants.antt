use Rattle.std.proofs.Common.{◌≡◌, ℕ, List, drop, map}
use Rattle.tera_tree.specs.View.{definition_view}
use Rattle.tera_check.specs.Named.{known_in, defined_from, defined_in, first_named, or_else}
use Rattle.tera_check.proofs.catalogue.add_definitions.Given as goal

abbrev pub invariant-loop-at : goal.invariant-loop-at
invariant-loop-at l =
    (n : List ℕ) → or_else (known_in l.initial.catalogue n) (first_named n (defined_in l.number l.template))
    ≡ or_else (known_in l.catalogue n) (first_named n (defined_from l.number l.template l.at (map definition_view (drop l.at l.definition-items))))
