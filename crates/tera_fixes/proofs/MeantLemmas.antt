-- The name that a word was meant to be.
use Rattle.std.proofs.Common.{◌≡◌, ◌∙◌, ◌<◌, ◌≤◌, ℕ, zero, suc, Bool, true, false, List, [], ◌∷◌, Option, None, Some, bytes_eq, find, get_or, length, not, nat_le, inl, inr, refl, sym, ap, arith}
use Rattle.std.specs.Prelude.{◌&&◌, ◌||◌}
use Rattle.std.specs.List.{list_any}
use Rattle.std.proofs.lemmas.Bool.{cases_Bool, false≢true}
use Rattle.std.proofs.lemmas.Bool.Decides.{nat_tests}
use Rattle.std.proofs.lemmas.Slice.Eq.{bytes_eq-Decides}
use Rattle.tera_settings.specs.Near.{IsNearest, distance, is_near, is_within}
use Rattle.tera_fixes.specs.Meant.{has_rival, is_close, is_meant, is_rival, meant_among}

-- ---- tests

and_first : (a b : Bool) → (a && b) ≡ true → a ≡ true
and_first true b is = refl
and_first false b is = is

and_rest : (a b : Bool) → (a && b) ≡ true → b ≡ true
and_rest true b is = is
and_rest false b is = absurd (false≢true is)

and_both : (a b : Bool) → a ≡ true → b ≡ true → (a && b) ≡ true
and_both true b first rest = rest
and_both false b first rest = absurd (false≢true first)

and_off : (a b : Bool) → a ≡ false → (a && b) ≡ false
and_off true b off = absurd (false≢true (sym off))
and_off false b off = refl

and_rest_off : (a b : Bool) → b ≡ false → (a && b) ≡ false
and_rest_off true b off = off
and_rest_off false b off = refl

or_first : (a b : Bool) → (a || b) ≡ false → a ≡ false
or_first true b is = is
or_first false b is = refl

or_rest : (a b : Bool) → (a || b) ≡ false → b ≡ false
or_rest true b is = absurd (false≢true (sym is))
or_rest false b is = is

not_true : (b : Bool) → not b ≡ true → b ≡ false
not_true true is = sym is
not_true false is = refl

not_off : (b : Bool) → b ≡ false → not b ≡ true
not_off true is = sym is
not_off false is = refl

not_on : (b : Bool) → b ≡ true → not b ≡ false
not_on true is = refl
not_on false is = sym is

-- ---- the elements of a list that pass a test

none_passes : {X : Type 0} (p : X → Bool) (xs : List X) → ((k : ℕ) (d : X) → k < length xs → p (get_or xs k d) ≡ false) → find p xs ≡ None
none_passes p [] none = refl
none_passes p (x ∷ xs) none =
    let first : p x ≡ false = none 0 x (omega arith) in
    rw first (none_passes p xs (λ k d below. none (suc k) d (omega arith)))

-- each that passes is this one
one_passes : {X : Type 0} (p : X → Bool) (xs : List X) (x : X) (i : ℕ) → i < length xs → get_or xs i x ≡ x → p x ≡ true
    → ((k : ℕ) (d : X) → k < length xs → p (get_or xs k d) ≡ true → get_or xs k d ≡ x) → find p xs ≡ Some x
one_passes p [] x i below at is only = absurd (omega arith)
one_passes p (y ∷ ys) x zero below at is only =
    let same : y ≡ x = at in
    let passes : p y ≡ true = ap p same ∙ is in
    rw passes (ap Some same)
one_passes p (y ∷ ys) x (suc i) below at is only =
    elim (cases_Bool (p y)) [
      | inl passes ↦
          let same : y ≡ x = only 0 y (omega arith) passes in
          rw passes (ap Some same)
      | inr fails ↦ rw fails (one_passes p ys x i (omega arith) at is (λ k d less passes. only (suc k) d (omega arith) passes))
    ]

any_fails : {X : Type 0} (p : X → Bool) (xs : List X) (k : ℕ) (d : X) → list_any p xs ≡ false → k < length xs → p (get_or xs k d) ≡ false
any_fails p [] k d none below = absurd (omega arith)
any_fails p (x ∷ xs) zero d none below = or_first (p x) (list_any p xs) none
any_fails p (x ∷ xs) (suc k) d none below = any_fails p xs k d (or_rest (p x) (list_any p xs) none) (omega arith)

-- ---- what is meant is the nearest

close_is_near : (name : List ℕ) (far : ℕ) → is_close name far ≡ true → is_within (name, far) ≡ true
close_is_near name far is = is

-- what is not near is not meant
far_is_not_meant : (word name : List ℕ) (names : List (List ℕ)) → is_near word name ≡ false → is_meant word names name ≡ false
far_is_not_meant word name names off =
    elim (cases_Bool (is_close name (distance word name))) [
      | inl is ↦ absurd (false≢true (sym off ∙ close_is_near name (distance word name) is))
      | inr no_third ↦ and_off _ _ no_third
    ]

other_is_rival : (word other name : List ℕ) (far : ℕ) → bytes_eq name other ≡ false → is_rival word other far name ≡ nat_le (distance word name) far
other_is_rival word other name far differ = rw differ refl

-- no other name is meant than the nearest
only_nearest : (word name : List ℕ) (names : List (List ℕ)) → IsNearest word names (Some name) → (k : ℕ) (d : List ℕ) → k < length names
    → is_meant word names (get_or names k d) ≡ true → get_or names k d ≡ name
only_nearest word name names best k d below is =
    let other : List ℕ = get_or names k d in
    let close : is_close other (distance word other) ≡ true = and_first _ (not (has_rival word names other (distance word other))) is in
    let alone : has_rival word names other (distance word other) ≡ false = not_true _ (and_rest (is_close other (distance word other)) _ is) in
    elim (cases_Bool (bytes_eq name other)) [
      | inl same ↦ sym ((bytes_eq-Decides name other).0 same)
      | inr differ ↦
          let there = best.0 in
          let quiet : is_rival word other (distance word other) name ≡ false =
          sym (ap (is_rival word other (distance word other)) there.2) ∙ any_fails (is_rival word other (distance word other)) names there.0 name alone there.1 in
          let above : nat_le (distance word name) (distance word other) ≡ false = sym (other_is_rival word other name (distance word other) differ) ∙ quiet in
          let less : distance word name ≤ distance word other = best.2 k d below (close_is_near other (distance word other) close) in
          let under : nat_le (distance word name) (distance word other) ≡ true = grind (arith, nat_tests) in
          absurd (false≢true (sym above ∙ under))
    ]

-- the nearest is not meant
not_nearest : (word name : List ℕ) (names : List (List ℕ)) → IsNearest word names (Some name) → is_meant word names name ≡ false → meant_among word names ≡ None
not_nearest word name names best off =
    none_passes (is_meant word names) names
    (λ k d below. elim (cases_Bool (is_meant word names (get_or names k d))) [
      | inl is ↦ absurd (false≢true (sym off ∙ (ap (is_meant word names) (sym (only_nearest word name names best k d below is)) ∙ is)))
      | inr no_other ↦ no_other
    ])

pub none_near : (word : List ℕ) (names : List (List ℕ)) → IsNearest word names None → meant_among word names ≡ None
none_near word names none =
    none_passes (is_meant word names) names (λ k d below. far_is_not_meant word (get_or names k d) names (none k d below))

pub nearest_too_far : (word name : List ℕ) (names : List (List ℕ)) (far : ℕ) → IsNearest word names (Some name) → far ≡ distance word name → is_close name far ≡ false
    → meant_among word names ≡ None
nearest_too_far word name names far best counted off =
    let no_third : is_close name (distance word name) ≡ false = ap (is_close name) (sym counted) ∙ off in
    not_nearest word name names best (and_off _ _ no_third)

pub nearest_has_rival : (word name : List ℕ) (names : List (List ℕ)) (far : ℕ) → IsNearest word names (Some name) → far ≡ distance word name
    → has_rival word names name far ≡ true → meant_among word names ≡ None
nearest_has_rival word name names far best counted rival =
    let rivals : has_rival word names name (distance word name) ≡ true = ap (has_rival word names name) (sym counted) ∙ rival in
    not_nearest word name names best (and_rest_off (is_close name (distance word name)) _ (not_on _ rivals))

pub nearest_is_meant : (word name : List ℕ) (names : List (List ℕ)) (far : ℕ) → IsNearest word names (Some name) → far ≡ distance word name → is_close name far ≡ true
    → has_rival word names name far ≡ false → meant_among word names ≡ Some name
nearest_is_meant word name names far best counted close rival =
    let third : is_close name (distance word name) ≡ true = ap (is_close name) (sym counted) ∙ close in
    let alone : has_rival word names name (distance word name) ≡ false = ap (has_rival word names name) (sym counted) ∙ rival in
    let is : is_meant word names name ≡ true = and_both _ _ third (not_off _ alone) in
    let there = best.0 in
    one_passes (is_meant word names) names name there.0 there.1 there.2 is (only_nearest word name names best)
