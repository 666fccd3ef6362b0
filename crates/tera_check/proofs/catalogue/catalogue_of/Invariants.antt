use Rattle.std.proofs.Common.{◌≡◌, ℕ, List, drop}
use Rattle.tera_check.specs.Named.{known_in, defined_by, first_named, or_else}
use Rattle.tera_check.proofs.catalogue.catalogue_of.Given as goal

abbrev pub invariant-loop-number : goal.invariant-loop-number
invariant-loop-number l =
    (n : List ℕ) → first_named n (defined_by 0 l.templates.items) ≡ or_else (known_in l.catalogue n) (first_named n (defined_by l.number (drop l.number l.templates.items)))
