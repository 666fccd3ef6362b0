-- What is read as a number is one, and each number is read.
use Rattle.std.proofs.Common.{◌≡◌, ℕ, ◌+◌, ◌-◌, ◌*◌, ◌^◌, ◌<◌, ◌≤◌, ◌⊎◌, Bool, true, false, ◌&&◌, ltb, List, [], ◌∷◌, ◌++◌, length, Some, refl, ap, ◌∙◌, arith, inl, inr}
use Rattle.std.specs.List.{AllByRecursion}
use Rattle.std.specs.Char.{is_ascii_digit}
use Rattle.std.specs.Str.{all_ascii_digits}
use Rattle.std.proofs.lemmas.Bool.{ltb-true, lt-ltb}
use Rattle.message_frames.specs.declared.field.Number.TheVariants.{Before, Within, After}
use Rattle.message_frames.specs.Header.{is_blank, number_after, IsNumber}
use Rattle.message_frames.specs.Reading.{reads}

pub which : (t : Bool) → (t ≡ true) ⊎ (t ≡ false)
which true = inl refl
which false = inr refl

pub both_true : (a b : Bool) → (a && b) ≡ true → (a ≡ true) × (b ≡ true)
both_true true b h = (refl, h)
both_true false b h = absurd cc

both_hold : (a b : Bool) → a ≡ true → b ≡ true → (a && b) ≡ true
both_hold true b h k = k
both_hold false b h k = h

abbrev AreBlank : List ℕ → Type 0
AreBlank = AllByRecursion (λ b. is_blank b ≡ true)

-- ---- what is read is a number

after_is : (m : ℕ) (v : List ℕ) (n : ℕ) → reads (After m) v ≡ Some n → AreBlank v × (m ≡ n)
after_is m [] n e = (tt, cc)
after_is m (b ∷ v) n e =
    elim (which (is_blank b)) [
      | inl holds ↦ let h : reads (After m) v ≡ Some n = rw holds at e in let r = after_is m v n h in ((holds, r.0), r.1)
      | inr fails ↦ let h = rw fails at e in absurd cc
    ]

-- digits after those of m, and blanks
record GoesOn (m : ℕ) (v : List ℕ) (n : ℕ) : Type 0 where
  digits : List ℕ
  back : List ℕ
  whole : v ≡ digits ++ back
  blank : AreBlank back
  decimal : all_ascii_digits digits ≡ true
  is : number_after m digits ≡ n
  fits : m < 2 ^ 64 → n < 2 ^ 64

within_is : (m : ℕ) (v : List ℕ) (n : ℕ) → reads (Within m) v ≡ Some n → GoesOn m v n
within_is m [] n e = let is : m ≡ n = cc in record { digits = []; back = []; whole = refl; blank = tt; decimal = refl; is = is; fits = λ lt. omega arith }
within_is m (b ∷ v) n e =
    elim (which (is_blank b)) [
      | inl holds ↦
          let h : reads (After m) v ≡ Some n = rw holds at e in
          let r = after_is m v n h in
          record { digits = []; back = b ∷ v; whole = refl; blank = (holds, r.0); decimal = refl; is = r.1; fits = λ lt. omega (arith, r.1) }
      | inr fails ↦
          let h = rw fails at e in
          elim (which (is_ascii_digit b && ltb (m * 10 + (b - 48)) (2 ^ 64))) [
            | inl one ↦
                let k : reads (Within (m * 10 + (b - 48))) v ≡ Some n = rw one at h in
                let r = within_is (m * 10 + (b - 48)) v n k in
                let t = both_true (is_ascii_digit b) (ltb (m * 10 + (b - 48)) (2 ^ 64)) one in
                let lt : m * 10 + (b - 48) < 2 ^ 64 = ltb-true _ _ t.1 in
                record {
                  digits = b ∷ r.digits;
                  back = r.back;
                  whole = ap (λ (x : List ℕ). b ∷ x) r.whole;
                  blank = r.blank;
                  decimal = both_hold (is_ascii_digit b) (all_ascii_digits r.digits) t.0 r.decimal;
                  is = r.is;
                  fits = λ _. r.fits lt;
                }
            | inr none ↦ let k = rw none at h in absurd cc
          ]
    ]

pub read_is : (v : List ℕ) (n : ℕ) → reads Before v ≡ Some n → IsNumber v n
read_is [] n e = absurd cc
read_is (b ∷ v) n e =
    elim (which (is_blank b)) [
      | inl holds ↦
          let h : reads Before v ≡ Some n = rw holds at e in
          let r = read_is v n h in
          record {
            front = b ∷ r.front;
            digits = r.digits;
            back = r.back;
            whole = ap (λ (x : List ℕ). b ∷ x) r.whole;
            blank_front = (holds, r.blank_front);
            blank_back = r.blank_back;
            some = r.some;
            decimal = r.decimal;
            is = r.is;
            fits = r.fits;
          }
      | inr fails ↦
          let h = rw fails at e in
          elim (which (is_ascii_digit b && ltb (0 * 10 + (b - 48)) (2 ^ 64))) [
            | inl one ↦
                let k : reads (Within (0 * 10 + (b - 48))) v ≡ Some n = rw one at h in
                let r = within_is (0 * 10 + (b - 48)) v n k in
                let t = both_true (is_ascii_digit b) (ltb (0 * 10 + (b - 48)) (2 ^ 64)) one in
                let lt : 0 * 10 + (b - 48) < 2 ^ 64 = ltb-true _ _ t.1 in
                record {
                  front = [];
                  digits = b ∷ r.digits;
                  back = r.back;
                  whole = ap (λ (x : List ℕ). b ∷ x) r.whole;
                  blank_front = tt;
                  blank_back = r.blank;
                  some = omega arith;
                  decimal = both_hold (is_ascii_digit b) (all_ascii_digits r.digits) t.0 r.decimal;
                  is = r.is;
                  fits = r.fits lt;
                }
            | inr none ↦ let k = rw none at h in absurd cc
          ]
    ]

-- ---- each number is read

after_all : (m : ℕ) (v : List ℕ) → AreBlank v → reads (After m) v ≡ Some m
after_all m [] h = refl
after_all m (b ∷ v) h = let here : is_blank b ≡ true = h.0 in rw here (after_all m v h.1)

grows : (m : ℕ) (digits : List ℕ) → m ≤ number_after m digits
grows m [] = omega arith
grows m (d ∷ digits) = omega (arith, grows (m * 10 + (d - 48)) digits)

digit_no_blank : (b : ℕ) → is_ascii_digit b ≡ true → is_blank b ≡ false
digit_no_blank b h = grind arith

within_all : (m : ℕ) (digits back : List ℕ) → all_ascii_digits digits ≡ true → AreBlank back
    → number_after m digits < 2 ^ 64 → reads (Within m) (digits ++ back) ≡ Some (number_after m digits)
within_all m [] [] h blank lt = refl
within_all m [] (b ∷ back) h blank lt = let here : is_blank b ≡ true = blank.0 in rw here (after_all m back blank.1)
within_all m (d ∷ digits) back h blank lt =
    let t = both_true (is_ascii_digit d) (all_ascii_digits digits) h in
    let none : is_blank d ≡ false = digit_no_blank d t.0 in
    let one : is_ascii_digit d ≡ true = t.0 in
    let fits : ltb (m * 10 + (d - 48)) (2 ^ 64) ≡ true = lt-ltb _ _ (omega (arith, grows (m * 10 + (d - 48)) digits)) in
    rw (none, one, fits) (within_all (m * 10 + (d - 48)) digits back t.1 blank lt)

before_all : (digits back : List ℕ) → 0 < length digits → all_ascii_digits digits ≡ true → AreBlank back
    → number_after 0 digits < 2 ^ 64 → reads Before (digits ++ back) ≡ Some (number_after 0 digits)
before_all [] back some h blank lt = absurd (omega arith)
before_all (d ∷ digits) back some h blank lt =
    let t = both_true (is_ascii_digit d) (all_ascii_digits digits) h in
    let none : is_blank d ≡ false = digit_no_blank d t.0 in
    let one : is_ascii_digit d ≡ true = t.0 in
    let fits : ltb (0 * 10 + (d - 48)) (2 ^ 64) ≡ true = lt-ltb _ _ (omega (arith, grows (0 * 10 + (d - 48)) digits)) in
    rw (none, one, fits) (within_all (0 * 10 + (d - 48)) digits back t.1 blank lt)

front_all : (front v : List ℕ) → AreBlank front → reads Before (front ++ v) ≡ reads Before v
front_all [] v h = refl
front_all (b ∷ front) v h = let here : is_blank b ≡ true = h.0 in rw here (front_all front v h.1)

pub is_read : (v : List ℕ) (n : ℕ) → IsNumber v n → reads Before v ≡ Some n
is_read v n h =
    ap (reads Before) h.whole ∙ front_all h.front (h.digits ++ h.back) h.blank_front
    ∙ before_all h.digits h.back h.some h.decimal h.blank_back (omega (arith, h.is, h.fits)) ∙ ap (λ k. Some k) h.is
