-- Names that are met one after another: the first that is met again makes them not distinct, whatever follows.
use Rattle.std.proofs.Common.{◌≡◌, ◌⊎◌, inl, inr, ⊎_elim, ℕ, Bool, true, false, not, ◌&&◌, ◌||◌, List, [], ◌∷◌, ◌++◌, bytes_eq, refl, sym, ap, ◌∙◌}
use Rattle.std.proofs.lemmas.Slice.Eq.{bytes_eq-Decides}
use Rattle.std.proofs.lemmas.List.Folds.{list_any-append}
use Rattle.tera_lexer.specs.grammar.Words.{is_one_of}
use Rattle.tera_grammar.specs.Words.{are_distinct}
use Rattle.tera_grammar.proofs.Options.{not_ok, or_false, and_ok}

and_false : (b : Bool) → (b && false) ≡ false
and_false true = refl
and_false false = refl

or_either : (a b : Bool) → (a || b) ≡ true → (a ≡ true) ⊎ (b ≡ true)
or_either true b h = inl refl
or_either false b h = inr h

or_second : (a b : Bool) → b ≡ true → (a || b) ≡ true
or_second true b h = refl
or_second false b h = h

same_both : (a b : List ℕ) → bytes_eq a b ≡ true → bytes_eq b a ≡ true
same_both a b h = (bytes_eq-Decides b a).1 (sym ((bytes_eq-Decides a b).0 h))

other_of : (a b : List ℕ) → bytes_eq a b ≡ false → (v : Bool) → bytes_eq b a ≡ v → v ≡ false
other_of a b h true e = let clash : true ≡ false = sym (same_both b a e) ∙ h in cc
other_of a b h false e = refl

other_both : (a b : List ℕ) → bytes_eq a b ≡ false → bytes_eq b a ≡ false
other_both a b h = let e = other_of a b h (bytes_eq b a) refl in e

is_after : (ds more : List (List ℕ)) (n d : List ℕ) → bytes_eq n d ≡ true → is_one_of (ds ++ n ∷ more) d ≡ true
is_after ds more n d h =
    list_any-append (λ m. bytes_eq d m) ds (n ∷ more) ∙ or_second (is_one_of ds d) (bytes_eq d n || is_one_of more d) (rw (same_both n d h))

-- a name that is met again
pub twice : (done more : List (List ℕ)) (n : List ℕ) → is_one_of done n ≡ true → are_distinct (done ++ n ∷ more) ≡ false
twice [] more n h = cc
twice (d ∷ ds) more n h =
    ⊎_elim (λ (here : bytes_eq n d ≡ true). ap (λ b. not b && are_distinct (ds ++ n ∷ more)) (is_after ds more n d here))
    (λ (later : is_one_of ds n ≡ true). ap (λ b. not (is_one_of (ds ++ n ∷ more) d) && b) (twice ds more n later)
    ∙ and_false (not (is_one_of (ds ++ n ∷ more) d)))
    (or_either (bytes_eq n d) (is_one_of ds n) h)

not_after : (ds : List (List ℕ)) (n d : List ℕ) → is_one_of ds d ≡ false → bytes_eq n d ≡ false → is_one_of (ds ++ n ∷ []) d ≡ false
not_after ds n d none other = list_any-append (λ m. bytes_eq d m) ds (n ∷ []) ∙ rw (none, other_both n d other)

-- a name that is met for the first time
pub once : (done : List (List ℕ)) (n : List ℕ) → are_distinct done ≡ true → is_one_of done n ≡ false → are_distinct (done ++ n ∷ []) ≡ true
once [] n distinct h = refl
once (d ∷ ds) n distinct h =
    let (first, rest) = and_ok (not (is_one_of ds d)) (are_distinct ds) distinct in
    let (other, none) = or_false (bytes_eq n d) (is_one_of ds n) h in
    ap (λ b. not b && are_distinct (ds ++ n ∷ [])) (not_after ds n d (not_ok (is_one_of ds d) first) other) ∙ once ds n rest none
