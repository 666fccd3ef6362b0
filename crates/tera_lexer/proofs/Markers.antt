-- Where markers are.
use Rattle.std.proofs.Common.{◌≡◌, ℕ, ◌<◌, ◌≤◌, Bool, true, false, ◌||◌, List, [], ◌∷◌, ◌++◌, length, take, drop, get_or, add-zero, subst, ⊎_elim, inl, inr, sym, refl, ap, ◌∙◌, arith, IsUtf8}
use Rattle.std.specs.Prelude.{◌⊎◌, ◌==◌, ◌≢◌}
use Rattle.std.specs.Str.{IsCharBoundary}
use Rattle.std.proofs.lemmas.List.{take_at, drop_at, length-append, get_or-drop, get_or_append_left}
use Rattle.std.proofs.lemmas.Slice.Eq.{starts_is}
use Rattle.std.proofs.lemmas.Bool.Decides.{Decides-eqb}
use Rattle.std.proofs.lemmas.Str.{IsCharBoundary-from_take, IsCharBoundary-start}
use Rattle.tera_lexer.specs.grammar.Marks.{Marks, IsValid, begins, dash_bytes, TakesDash}
use Rattle.tera_lexer.specs.grammar.Division.{is_at_start, Starts}
use Rattle.tera_lexer.specs.code.Markers.{AreStartTexts}
use Rattle.tera_lexer.specs.reading.Front.{at_dash, after_dash, after_marker}
use Rattle.std.proofs.lemmas.Bool.{cases_Bool, eqb-true, eq-eqb, ne_eqb, false≢true}

-- a marker that begins the bytes is before the rest of them, and the other way round
pub begins_splits : (marker bytes : List ℕ) → begins marker bytes ≡ true → bytes ≡ marker ++ drop (length marker) bytes
begins_splits marker bytes h = (starts_is Decides-eqb bytes marker (begins marker bytes) refl).0 h

pub splits_begins : (marker bytes rest : List ℕ) → bytes ≡ marker ++ rest → begins marker bytes ≡ true
splits_begins marker bytes rest e = (starts_is Decides-eqb bytes marker (begins marker bytes) refl).1 rest e

-- a text that is a marker and more may be cut after the marker
pub marker_cut : (bytes marker : List ℕ) → IsUtf8 bytes → IsUtf8 marker → begins marker bytes ≡ true → IsCharBoundary bytes (length marker)
marker_cut bytes marker utf8 text h =
    let e = begins_splits marker bytes h in
    let fits : length marker ≤ length bytes = omega (arith, ap length e, length-append marker (drop (length marker) bytes)) in
    IsCharBoundary-from_take bytes (length marker) utf8 fits (subst IsUtf8 (sym (ap (take (length marker)) e ∙ take_at marker (drop (length marker) bytes) (length marker) refl)) text)

-- either of two tests
pub or_true : (a b : Bool) → (a || b) ≡ true → (a ≡ true) ⊎ (b ≡ true)
or_true true b h = inl refl
or_true false b h = inr h

pub or_false : (a b : Bool) → (a || b) ≡ false → (a ≡ false) × (b ≡ false)
or_false true b h = cc
or_false false b h = (refl, h)

-- and before it
pub begin_cut : (bytes marker : List ℕ) (i : ℕ) → i < length bytes → IsUtf8 marker → length marker ≡ 2 → begins marker (drop i bytes) ≡ true → IsCharBoundary bytes i
begin_cut bytes marker i lt text two h =
    let e = begins_splits marker (drop i bytes) h in
    let first : get_or bytes i 0 ≡ get_or marker 0 0
    = sym (ap (λ k. get_or bytes k 0) (add-zero i)) ∙ sym (get_or-drop i bytes 0 0) ∙ ap (λ l. get_or l 0 0) e ∙ get_or_append_left marker (drop (length marker) (drop i bytes)) 0 0 (omega arith) in
    let lead = (IsCharBoundary-start marker text).1 (omega arith) in
    (omega arith, λ in_range high. rw first (lead (rw first at high)))

pub start_cut : (m : Marks) (bytes : List ℕ) (i : ℕ) → AreStartTexts m → IsValid m → i < length bytes → is_at_start m (drop i bytes) ≡ true → IsCharBoundary bytes i
start_cut m bytes i texts valid lt h =
    ⊎_elim
    (λ v. begin_cut bytes m.variable_start i lt texts.variable_start valid.variable_start v)
    (λ other. ⊎_elim
    (λ b. begin_cut bytes m.block_start i lt texts.block_start valid.block_start b)
    (λ c. begin_cut bytes m.comment_start i lt texts.comment_start valid.comment_start c)
    (or_true (begins m.block_start (drop i bytes)) (begins m.comment_start (drop i bytes)) other))
    (or_true (begins m.variable_start (drop i bytes)) (begins m.block_start (drop i bytes) || begins m.comment_start (drop i bytes)) h)

-- a start marker with its dash
pub dash_sound : (following : List ℕ) → (following ≡ dash_bytes (at_dash following) ++ after_dash following) × TakesDash (at_dash following) (after_dash following)
dash_sound following =
    ⊎_elim
    (λ dashed. rw dashed (begins_splits (45 ∷ []) following dashed, tt))
    (λ no_dash. rw no_dash (refl, no_dash))
    (cases_Bool (at_dash following))

pub marker_sound : (marker bytes : List ℕ) → begins marker bytes ≡ true → Starts marker (at_dash (after_marker marker bytes)) bytes (after_dash (after_marker marker bytes))
marker_sound marker bytes starts =
    let dash = dash_sound (after_marker marker bytes) in (begins_splits marker bytes starts ∙ ap (λ l. marker ++ l) dash.0, dash.1)

pub dash_found : (dash : Bool) (inside : List ℕ) → TakesDash dash inside → (at_dash (dash_bytes dash ++ inside) ≡ dash) × (after_dash (dash_bytes dash ++ inside) ≡ inside)
dash_found true inside takes = (refl, refl)
dash_found false inside takes = (takes, rw takes refl)

pub after_is : (marker bytes rest : List ℕ) → bytes ≡ marker ++ rest → after_marker marker bytes ≡ rest
after_is marker bytes rest e = ap (drop (length marker)) e ∙ drop_at marker rest (length marker) refl

-- a marker of two bytes begins those that are its bytes, and no others
pub first_bytes : (marker bytes : List ℕ) → length marker ≡ 2 → begins marker bytes ≡ true → (get_or bytes 0 0 ≡ get_or marker 0 0) × (get_or bytes 1 0 ≡ get_or marker 1 0)
first_bytes marker bytes two here =
    let e = begins_splits marker bytes here in
    let rest : List ℕ = drop (length marker) bytes in (
      ap (λ l. get_or l 0 0) e ∙ get_or_append_left marker rest 0 0 (omega arith),
      ap (λ l. get_or l 1 0) e ∙ get_or_append_left marker rest 0 1 (omega arith),
    )

both_begin : (marker bytes : List ℕ) → length marker ≡ 2 → 2 ≤ length bytes → get_or bytes 0 0 ≡ get_or marker 0 0 → get_or bytes 1 0 ≡ get_or marker 1 0 → begins marker bytes ≡ true
both_begin (x ∷ y ∷ []) (a ∷ b ∷ bs) two fits first second = splits_begins (x ∷ y ∷ []) (a ∷ b ∷ bs) bs (λ i. first i ∷ second i ∷ bs)
both_begin [] bytes two fits first second = absurd (omega arith)
both_begin (x ∷ []) bytes two fits first second = absurd (omega arith)
both_begin (x ∷ y ∷ z ∷ zs) bytes two fits first second = absurd (omega arith)
both_begin (x ∷ y ∷ []) [] two fits first second = absurd (omega arith)
both_begin (x ∷ y ∷ []) (a ∷ []) two fits first second = absurd (omega arith)

pub first_differs : (marker bytes : List ℕ) → length marker ≡ 2 → get_or bytes 0 0 ≢ get_or marker 0 0 → (get_or bytes 0 0 == get_or marker 0 0) ≡ begins marker bytes
first_differs marker bytes two other =
    ne_eqb (get_or bytes 0 0) (get_or marker 0 0) other ∙ ⊎_elim (λ here. absurd (other (first_bytes marker bytes two here).0)) (λ no. sym no) (cases_Bool (begins marker bytes))

pub second_decides : (marker bytes : List ℕ) → length marker ≡ 2 → 2 ≤ length bytes → get_or bytes 0 0 ≡ get_or marker 0 0 → (get_or bytes 1 0 == get_or marker 1 0) ≡ begins marker bytes
second_decides marker bytes two fits first =
    ⊎_elim
    (λ same. same ∙ sym (both_begin marker bytes two fits first (eqb-true (get_or bytes 1 0) (get_or marker 1 0) same)))
    (λ other. other ∙ ⊎_elim (λ here. absurd (false≢true (sym other ∙ eq-eqb (get_or bytes 1 0) (get_or marker 1 0) (first_bytes marker bytes two here).1))) (λ no. sym no) (cases_Bool (begins marker bytes)))
    (cases_Bool (get_or bytes 1 0 == get_or marker 1 0))
