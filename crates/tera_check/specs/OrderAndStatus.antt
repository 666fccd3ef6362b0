-- The order of findings, and the status of a program that checks.
use Rattle.std.specs.Prelude.{ℕ, List, Bool, true, false}
use Rattle.std.specs.List.Sorted.{IsSortedByKey}
use Rattle.std.specs.Ordering.{nat_cmp, ordering_then}
use Rattle.std.specs.declared.cmp.Ordering.{Ordering}
use Rattle.tera_findings.specs.Findings.{place_of}
use Rattle.tera_findings.specs.declared.finding.Finding.{Finding}
use Rattle.tera_findings.specs.declared.finding.Place.{Place}

-- findings in the order of their places: by line, and in a line by column
abbrev pub place_cmp : Place → Place → Ordering
place_cmp p q = ordering_then (nat_cmp p.line q.line) (nat_cmp p.column q.column)

abbrev pub IsInOrder : List Finding → Type 0
IsInOrder fs = IsSortedByKey (λ f. place_of f.span) place_cmp fs

-- the status: 2 if a template could not be read, else 1 if an error was found
abbrev pub status_of : Bool → Bool → ℕ
status_of errors true = 2
status_of true false = 1
status_of false false = 0
