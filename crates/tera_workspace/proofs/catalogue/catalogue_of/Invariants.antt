use Rattle.std.proofs.Common.{◌≡◌, ℕ, List, drop}
use Rattle.tera_check.specs.Named.{known_in, defined_by, first_named, or_else}
use Rattle.tera_workspace.specs.Kept.{templates_of}
use Rattle.tera_workspace.proofs.catalogue.catalogue_of.Given as goal

abbrev pub invariant-loop-number : goal.invariant-loop-number
invariant-loop-number l =
    (n : List ℕ) → first_named n (defined_by 0 (templates_of l.all.items))
    ≡ or_else (known_in l.catalogue n) (first_named n (defined_by l.number (templates_of (drop l.number l.all.items))))
