-- Names among others.
use Rattle.std.specs.Prelude.{ℕ, List, [], ◌∷◌, Bool, true, false, if◌then◌else◌}
use Rattle.std.specs.BTreeSet.{BTreeSet, contains_by}
use Rattle.std.specs.Borrow.{Bor}
use Rattle.std.specs.Cmp.Lexicographic.{slice_cmp}
use Rattle.std.specs.Ordering.{nat_cmp}
use Rattle.std.specs.Str.{bytes_eq}

abbrev pub is_among : List ℕ → List (List ℕ) → Bool
is_among n [] = false
is_among n (m ∷ ms) = if bytes_eq m n then true else is_among n ms

-- whether a set has a name
abbrev pub contains_name : BTreeSet (Bor (List ℕ)) → List ℕ → Bool
contains_name names n = contains_by (λ k. slice_cmp nat_cmp n k.now) names
