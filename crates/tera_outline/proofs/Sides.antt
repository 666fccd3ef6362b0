-- Two lists that are the same except what passes a test.
use Rattle.std.proofs.Common.{◌≡◌, inl, inr, ◌+◌, ◌<◌, ◌≤◌, zero, suc, ℕ, Bool, false, not, List, [], ◌∷◌, take, drop, get_or, refl, arith}
use Rattle.std.specs.List.{filter, prefix_len}
use Rattle.std.proofs.lemmas.Bool.{cases_Bool}

abbrev pub others : (ℕ → Bool) → List ℕ → List ℕ
others p xs = filter (λ x. not (p x)) xs

-- the front that passes adds nothing
pub others_after : (p : ℕ → Bool) (xs : List ℕ) → others p (drop (prefix_len p xs) xs) ≡ others p xs
others_after p [] = refl
others_after p (x ∷ xs) = elim (cases_Bool (p x)) [
  | inl yes_x ↦ let more : 1 + prefix_len p xs ≡ suc (prefix_len p xs) = omega arith in rw (yes_x, more) (others_after p xs)
  | inr no_x ↦ rw (no_x, no_x) refl
]

-- after it is no more that passes
pub stops : (p : ℕ → Bool) (xs : List ℕ) → p 0 ≡ false → p (get_or xs (prefix_len p xs) 0) ≡ false
stops p [] none = none
stops p (x ∷ xs) none = elim (cases_Bool (p x)) [
  | inl yes_x ↦ let more : 1 + prefix_len p xs ≡ suc (prefix_len p xs) = omega arith in rw (yes_x, more) (stops p xs none)
  | inr no_x ↦ rw no_x no_x
]

-- two lists that begin alike, or are both at their end
pub record BeginAlike (xs ys : List ℕ) : Type 0 where
  pub one_ends : xs ≡ [] → ys ≡ []
  pub other_ends : ys ≡ [] → xs ≡ []
  pub first : get_or xs 0 0 ≡ get_or ys 0 0

pub begin_alike : (p : ℕ → Bool) (xs ys : List ℕ) → others p xs ≡ others p ys → p (get_or xs 0 0) ≡ false → p (get_or ys 0 0) ≡ false → BeginAlike xs ys
begin_alike p [] [] same a b = record { one_ends = λ e. refl; other_ends = λ e. refl; first = refl }
begin_alike p [] (y ∷ ys) same a b = let e : [] ≡ y ∷ others p ys = rw b at same in cc
begin_alike p (x ∷ xs) [] same a b = let e : x ∷ others p xs ≡ [] = rw a at same in cc
begin_alike p (x ∷ xs) (y ∷ ys) same a b =
    let e : x ∷ others p xs ≡ y ∷ others p ys = rw (a, b) at same in
    let head : x ≡ y = cc in
    record { one_ends = λ e. cc; other_ends = λ e. cc; first = head }

-- words that begin both of them are the same as far as both go, and what is left is still the same except what passes
pub same_word : (p : ℕ → Bool) (n : ℕ) (xs ys : List ℕ) → others p xs ≡ others p ys
    → n ≤ prefix_len (λ x. not (p x)) xs → n ≤ prefix_len (λ x. not (p x)) ys
    → (take n xs ≡ take n ys) × (others p (drop n xs) ≡ others p (drop n ys))
same_word p zero xs ys same a b = (refl, same)
same_word p (suc n) [] ys same a b = absurd (omega arith)
same_word p (suc n) (x ∷ xs) [] same a b = absurd (omega arith)
same_word p (suc n) (x ∷ xs) (y ∷ ys) same a b = elim (cases_Bool (p x)) [
  | inl yes_x ↦ let none : suc n ≤ 0 = rw yes_x at a in absurd (omega arith)
  | inr no_x ↦ elim (cases_Bool (p y)) [
    | inl yes_y ↦ let none : suc n ≤ 0 = rw yes_y at b in absurd (omega arith)
    | inr no_y ↦
        let e : x ∷ others p xs ≡ y ∷ others p ys = rw (no_x, no_y) at same in
        let head : x ≡ y = cc in
        let tail : others p xs ≡ others p ys = cc in
        let in_xs : suc n ≤ 1 + prefix_len (λ x. not (p x)) xs = rw no_x at a in
        let in_ys : suc n ≤ 1 + prefix_len (λ x. not (p x)) ys = rw no_y at b in
        let rest = same_word p n xs ys tail (omega arith) (omega arith) in
        (rw (head, rest.0) refl, rest.1)
  ]
]

-- a word of what does not pass goes on
pub some_word : (p : ℕ → Bool) (x : ℕ) (xs : List ℕ) → p x ≡ false → 0 < prefix_len (λ x. not (p x)) (x ∷ xs)
some_word p x xs no_x = rw no_x (omega arith)
