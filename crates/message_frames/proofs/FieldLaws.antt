-- What a line is read as is what it says.
use Rattle.std.proofs.Common.{◌≡◌, ℕ, ◌<◌, Bool, true, false, ◌||◌, eqb, List, [], ◌∷◌, ◌++◌, length, Option, Some, None, refl, sym, ap, ◌∙◌, arith, inl, inr}
use Rattle.std.specs.List.{list_any}
use Rattle.std.specs.Option.{option_map}
use Rattle.std.proofs.lemmas.Bool.{eqb-true, eqb-false}
use Rattle.message_frames.specs.declared.field.Field.TheVariants as fields
use Rattle.message_frames.specs.declared.field.Number.TheVariants.{Before}
use Rattle.message_frames.specs.Header.{is_colon, colon, names_length, IsField, StatesLength, StatesOther}
use Rattle.message_frames.specs.Reading.{cut, reads, length_field, field_at, field_of}
use Rattle.message_frames.proofs.Numbers.{which, read_is, is_read}

pub both_false : (a b : Bool) → (a || b) ≡ false → (a ≡ false) × (b ≡ false)
both_false true b h = absurd cc
both_false false b h = (refl, h)

-- ---- the first colon

abbrev Parts : Type 0
Parts = List ℕ × List ℕ

mapped : (b : ℕ) (o : Option Parts) (name value : List ℕ) → option_map {T = Parts} {U = Parts} (λ p. (b ∷ p.0, p.1)) o ≡ Some (name, value) → (p : Parts) × (o ≡ Some p) × (name ≡ b ∷ p.0) × (value ≡ p.1)
mapped b None name value e = absurd cc
mapped b (Some p) name value e =
    let pair : ◌≡◌ {A = Parts} (b ∷ p.0, p.1) (name, value) = cc in
    (p, refl, sym (ap (λ (q : Parts). q.0) pair), sym (ap (λ (q : Parts). q.1) pair))

one_more : (b : ℕ) (line n v name value : List ℕ) → is_colon b ≡ false → name ≡ b ∷ n → value ≡ v
    → line ≡ n ++ colon ∷ v → list_any is_colon n ≡ false
    → (b ∷ line ≡ name ++ colon ∷ value) × (list_any is_colon name ≡ false)
one_more b line n v name value fails e f whole none = (rw (e, f, whole) refl, rw (e, fails) none)

cut_is : (line name value : List ℕ) → cut line ≡ Some (name, value)
    → (line ≡ name ++ colon ∷ value) × (list_any is_colon name ≡ false)
cut_is [] name value e = absurd cc
cut_is (b ∷ line) name value e =
    elim (which (is_colon b)) [
      | inl holds ↦
          let h = rw holds at e in
          let pair : ◌≡◌ {A = Parts} ([], line) (name, value) = cc in
          let none : name ≡ [] = sym (ap (λ (q : Parts). q.0) pair) in
          let rest : value ≡ line = sym (ap (λ (q : Parts). q.1) pair) in
          let at : b ≡ colon = eqb-true b colon holds in
          (rw (none, rest, at) refl, rw none refl)
      | inr fails ↦
          let h = rw fails at e in
          let m = mapped b (cut line) name value h in
          let r = cut_is line m.0.0 m.0.1 m.1 in
          one_more b line m.0.0 m.0.1 name value fails m.2 m.3 r.0 r.1
    ]

is_cut : (name value : List ℕ) → list_any is_colon name ≡ false → cut (name ++ colon ∷ value) ≡ Some (name, value)
is_cut [] value h = refl
is_cut (b ∷ name) value h =
    let f = both_false (is_colon b) (list_any is_colon name) h in
    let here : is_colon b ≡ false = f.0 in
    rw (here, is_cut name value f.1) refl

-- ---- by cases

length_is : (o : Option ℕ) (n : ℕ) → length_field o ≡ fields.Length n → o ≡ Some n
length_is None n e = absurd cc
length_is (Some m) n e = let is : m ≡ n = cc in ap (λ k. Some k) is

length_no_other : (o : Option ℕ) → length_field o ≡ fields.Other → ⊥
length_no_other None e = cc
length_no_other (Some m) e = cc

record AtLength (o : Option Parts) (n : ℕ) : Type 0 where
  name : List ℕ
  value : List ℕ
  is : o ≡ Some (name, value)
  named : 0 < length name
  names : names_length name ≡ true
  number : reads Before value ≡ Some n

record AtOther (o : Option Parts) : Type 0 where
  name : List ℕ
  value : List ℕ
  is : o ≡ Some (name, value)
  named : 0 < length name
  names : names_length name ≡ false

at_length : (o : Option Parts) (n : ℕ) → field_at o ≡ fields.Length n → AtLength o n
at_length None n e = absurd cc
at_length (Some (name, value)) n e =
    elim (which (eqb (length name) 0)) [
      | inl none ↦ let h = rw none at e in absurd cc
      | inr some ↦
          let h = rw some at e in
          elim (which (names_length name)) [
            | inl holds ↦ let k = rw holds at h in record { name = name; value = value; is = refl; named = omega (arith, eqb-false _ _ some); names = holds; number = length_is (reads Before value) n k }
            | inr fails ↦ let k = rw fails at h in absurd cc
          ]
    ]

at_other : (o : Option Parts) → field_at o ≡ fields.Other → AtOther o
at_other None e = absurd cc
at_other (Some (name, value)) e =
    elim (which (eqb (length name) 0)) [
      | inl none ↦ let h = rw none at e in absurd cc
      | inr some ↦
          let h = rw some at e in
          elim (which (names_length name)) [
            | inl holds ↦ let k = rw holds at h in absurd (length_no_other (reads Before value) k)
            | inr fails ↦ record { name = name; value = value; is = refl; named = omega (arith, eqb-false _ _ some); names = fails }
          ]
    ]

field_from : (line name value : List ℕ) → cut line ≡ Some (name, value) → 0 < length name → IsField line name value
field_from line name value e some = let r = cut_is line name value e in record { whole = r.0; named = some; first = r.1 }

-- ---- the line

pub field_length : (line : List ℕ) (n : ℕ) → field_of line ≡ fields.Length n → StatesLength line n
unfolding field_of
field_length line n e =
    let a = at_length (cut line) n e in
    record { name = a.name; value = a.value; field = field_from line a.name a.value a.is a.named; names = a.names; number = read_is a.value n a.number }

pub field_other : (line : List ℕ) → field_of line ≡ fields.Other → StatesOther line
unfolding field_of
field_other line e =
    let a = at_other (cut line) e in
    record { name = a.name; value = a.value; field = field_from line a.name a.value a.is a.named; names = a.names }

cut_field : (line name value : List ℕ) → IsField line name value → cut line ≡ Some (name, value)
cut_field line name value f = ap cut f.whole ∙ is_cut name value f.first

some_name : (name : List ℕ) → 0 < length name → eqb (length name) 0 ≡ false
some_name name h =
    elim (which (eqb (length name) 0)) [ inl holds ↦ absurd (omega (arith, eqb-true (length name) 0 holds)) | inr fails ↦ fails ]

pub length_read : (line : List ℕ) (n : ℕ) → StatesLength line n → field_of line ≡ fields.Length n
unfolding field_of
length_read line n t =
    let number : reads Before t.value ≡ Some n = is_read t.value n t.number in
    ap field_at (cut_field line t.name t.value t.field) ∙ rw (some_name t.name t.field.named, t.names, number) refl

pub other_read : (line : List ℕ) → StatesOther line → field_of line ≡ fields.Other
unfolding field_of
other_read line t =
    ap field_at (cut_field line t.name t.value t.field) ∙ rw (some_name t.name t.field.named, t.names) refl
