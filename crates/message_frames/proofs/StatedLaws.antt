-- What lines are read to say is what they say together.
use Rattle.std.proofs.Common.{◌≡◌, ℕ, List, [], ◌∷◌, refl, sym, ap, ◌∙◌, inl, inr}
use Rattle.std.specs.List.{AllByRecursion}
use Rattle.message_frames.specs.declared.field.Field.TheVariants as fields
use Rattle.message_frames.specs.declared.field.Stated.{Stated}
use Rattle.message_frames.specs.declared.field.Stated.TheVariants as stated
use Rattle.message_frames.specs.Header.{StatesOther, IsStatedOnce}
use Rattle.message_frames.specs.Reading.{field_of, stated_after}
use Rattle.message_frames.specs.Representing.{IsStated}
use Rattle.message_frames.proofs.FieldLaws.{field_length, field_other, length_read, other_read}

-- what a line is read as, with the equation
data Cases (line : List ℕ) : Type 0 where
  Reports : (n : ℕ) → field_of line ≡ fields.Length n → Cases line
  Others : field_of line ≡ fields.Other → Cases line
  Neither : field_of line ≡ fields.Malformed → Cases line

cases : (line : List ℕ) → Cases line
cases line =
    elim (field_of line) as (λ f. field_of line ≡ f → Cases line) [ fields.Length n ↦ λ e. Reports n e | fields.Other ↦ λ e. Others e | fields.Malformed ↦ λ e. Neither e ] refl

bad_stays : (lines : List (List ℕ)) → stated_after stated.Malformed lines ≡ stated.Malformed
bad_stays [] = refl
bad_stays (line ∷ lines) = bad_stays lines

no_length : (lines : List (List ℕ)) (n : ℕ) → stated_after stated.Malformed lines ≡ stated.Length n → ⊥
no_length lines n e = let b = bad_stays lines in cc

length_stays : (m : ℕ) (lines : List (List ℕ)) → AllByRecursion StatesOther lines
    → stated_after (stated.Length m) lines ≡ stated.Length m
length_stays m [] h = refl
length_stays m (line ∷ lines) h = rw (other_read line h.0) (length_stays m lines h.1)

length_stayed : (m : ℕ) (lines : List (List ℕ)) (n : ℕ) → stated_after (stated.Length m) lines ≡ stated.Length n
    → AllByRecursion StatesOther lines × (m ≡ n)
length_stayed m [] n e = (tt, cc)
length_stayed m (line ∷ lines) n e =
    elim (cases line) [
      | Reports k is ↦ absurd (no_length lines n (rw is at e))
      | Others is ↦ let r = length_stayed m lines n (rw is at e) in ((field_other line is, r.0), r.1)
      | Neither is ↦ absurd (no_length lines n (rw is at e))
    ]

pub once_stated : (lines : List (List ℕ)) (n : ℕ) → IsStatedOnce lines n → stated_after stated.Nothing lines ≡ stated.Length n
once_stated [] n h = absurd h
once_stated (line ∷ lines) n (inl h) = rw (length_read line n h.0) (length_stays n lines h.1)
once_stated (line ∷ lines) n (inr h) = rw (other_read line h.0) (once_stated lines n h.1)

pub stated_once : (lines : List (List ℕ)) (n : ℕ) → stated_after stated.Nothing lines ≡ stated.Length n → IsStatedOnce lines n
stated_once [] n e = absurd cc
stated_once (line ∷ lines) n e =
    elim (cases line) [
      | Reports k is ↦
          let r = length_stayed k lines n (rw is at e) in
          let here : field_of line ≡ fields.Length n = is ∙ ap fields.Length r.1 in
          inl (field_length line n here, r.0)
      | Others is ↦ inr (field_other line is, stated_once lines n (rw is at e))
      | Neither is ↦ absurd (no_length lines n (rw is at e))
    ]

nothing_stays : (lines : List (List ℕ)) → AllByRecursion StatesOther lines → stated_after stated.Nothing lines ≡ stated.Nothing
nothing_stays [] h = refl
nothing_stays (line ∷ lines) h = rw (other_read line h.0) (nothing_stays lines h.1)

-- what was reported once is not forgotten
not_forgotten : (m : ℕ) (lines : List (List ℕ)) → stated_after (stated.Length m) lines ≡ stated.Nothing → ⊥
not_forgotten m [] e = cc
not_forgotten m (line ∷ lines) e =
    elim (cases line) [
      | Reports k is ↦ let b = bad_stays lines in let h = rw is at e in cc
      | Others is ↦ not_forgotten m lines (rw is at e)
      | Neither is ↦ let b = bad_stays lines in let h = rw is at e in cc
    ]

others_stated : (lines : List (List ℕ)) → stated_after stated.Nothing lines ≡ stated.Nothing → AllByRecursion StatesOther lines
others_stated [] e = tt
others_stated (line ∷ lines) e =
    elim (cases line) [
      | Reports k is ↦ absurd (not_forgotten k lines (rw is at e))
      | Others is ↦ (field_other line is, others_stated lines (rw is at e))
      | Neither is ↦ let b = bad_stays lines in let h = rw is at e in absurd cc
    ]

pub stated_is : (t : Stated) (lines : List (List ℕ)) → stated_after stated.Nothing lines ≡ t → IsStated t lines
stated_is stated.Nothing lines e = others_stated lines e
stated_is (stated.Length len) lines e = stated_once lines len e
stated_is stated.Malformed lines e =
    (λ others. let h = nothing_stays lines others in cc, λ len once. let h = once_stated lines len once in cc)

stated_from : (t read : Stated) (lines : List (List ℕ)) → stated_after stated.Nothing lines ≡ read → IsStated t lines → read ≡ t
stated_from stated.Nothing read lines e is = sym e ∙ nothing_stays lines is
stated_from (stated.Length len) read lines e is = sym e ∙ once_stated lines len is
stated_from stated.Malformed stated.Nothing lines e is = absurd (is.0 (others_stated lines e))
stated_from stated.Malformed (stated.Length len) lines e is = absurd (is.1 len (stated_once lines len e))
stated_from stated.Malformed stated.Malformed lines e is = refl

pub is_stated : (t : Stated) (lines : List (List ℕ)) → IsStated t lines → stated_after stated.Nothing lines ≡ t
is_stated t lines is = stated_from t (stated_after stated.Nothing lines) lines refl is
