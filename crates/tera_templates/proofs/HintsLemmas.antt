-- How far a text goes.
use Rattle.std.proofs.Common.{◌≡◌, ◌∙◌, ◌≤◌, ℕ, Bool, true, false, cond, ltb, List, Option, None, Some, length, refl, ap, arith}
use Rattle.std.specs.Prelude.{not, unwrap_or}
use Rattle.std.specs.List.{position_or_len}
use Rattle.std.proofs.lemmas.Bool.Decides.{nat_tests}
use Rattle.std.proofs.lemmas.List.Sums.{prefix_len-le-length}

by_test : (b : Bool) (at len : ℕ) → (b ≡ false → len ≡ at) → unwrap_or (cond b (Some at) None) len ≡ at
by_test true at len other = refl
by_test false at len other = other refl

pub at_or_len : (p : ℕ → Bool) (xs : List ℕ) (r : Option ℕ) → r ≡ cond (ltb (position_or_len p xs) (length xs)) (Some (position_or_len p xs)) None
    → unwrap_or r (length xs) ≡ position_or_len p xs
at_or_len p xs r is =
    let within : position_or_len p xs ≤ length xs = prefix_len-le-length (λ x. not (p x)) xs in
    ap (λ o. unwrap_or o (length xs)) is ∙ by_test (ltb (position_or_len p xs) (length xs)) (position_or_len p xs) (length xs) (λ far. grind (arith, nat_tests))
