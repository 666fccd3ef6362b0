-- Line ends in bytes, and the lines before them.
use Rattle.std.proofs.Common.{◌≡◌, ℕ, zero, suc, ◌+◌, ◌-◌, ◌<◌, ◌≤◌, List, [], ◌∷◌, ◌++◌, length, get_or, take, drop, Some, None, refl, sym, ap, subst, ◌∙◌, append_assoc, arith, inl, inr}
use Rattle.std.specs.List.{AllByRecursion, flat_map}
use Rattle.std.proofs.lemmas.Bool.{cases_lt}
use Rattle.std.proofs.lemmas.List.{get_or-drop, get_or-take, get_or_past, length-take, length-drop, length-append, drop_at, flat_map_more}
use Rattle.memchr.specs.Find.{FindsNeedle, OccursAt}
use Rattle.message_frames.specs.declared.field.Stated.{Stated}
use Rattle.message_frames.specs.Header.{EndsAt, NoneEndsBefore, IsLine, ended, line_end, head_text}
use Rattle.message_frames.specs.Reading.{stated_after, stated_with, field_of}
use Rattle.message_frames.specs.Lines.{IsEndFrom, LinesBefore}

-- a line end has room
pub end_fits : (bytes : List ℕ) (k : ℕ) → EndsAt bytes k → k + 2 ≤ length bytes
end_fits bytes k h =
    elim (cases_lt (suc k) (length bytes)) [
      | inl lt ↦ omega arith
      | inr le ↦ let past : get_or bytes (suc k) 0 ≡ 0 = get_or_past bytes (suc k) 0 le in absurd (omega (arith, h.1, past))
    ]

-- ---- found by a search after the first places

ends_there : (bytes : List ℕ) (s j : ℕ) → OccursAt (drop s bytes) (13 ∷ 10 ∷ []) j → EndsAt bytes (s + j)
ends_there bytes s j occurs =
    let first : get_or (drop s bytes) (j + 0) 0 ≡ 13 = occurs.reads 0 (omega arith) in
    let second : get_or (drop s bytes) (j + 1) 0 ≡ 10 = occurs.reads 1 (omega arith) in
    let e0 : s + (j + 0) ≡ s + j = omega arith in
    let e1 : s + (j + 1) ≡ suc (s + j) = omega arith in (
      ap (λ i. get_or bytes i 0) (sym e0) ∙ sym (get_or-drop s bytes (j + 0) 0) ∙ first,
      ap (λ i. get_or bytes i 0) (sym e1) ∙ sym (get_or-drop s bytes (j + 1) 0) ∙ second,
    )

occurs_there : (bytes : List ℕ) (s j : ℕ) → EndsAt bytes (s + j) → OccursAt (drop s bytes) (13 ∷ 10 ∷ []) j
occurs_there bytes s j h =
    let room : s + j + 2 ≤ length bytes = end_fits bytes (s + j) h in
    let e0 : s + (j + 0) ≡ s + j = omega arith in
    let e1 : s + (j + 1) ≡ suc (s + j) = omega arith in
    record {
      fits = omega (arith, length-drop s bytes);
      reads = λ i lt. reads_at i lt;
    }
  where
    reads_at : (i : ℕ) → i < 2 → get_or (drop s bytes) (j + i) 0 ≡ get_or (13 ∷ 10 ∷ []) i 0
    reads_at zero lt = let e0 : s + (j + 0) ≡ s + j = omega arith in get_or-drop s bytes (j + 0) 0 ∙ ap (λ i. get_or bytes i 0) e0 ∙ h.0
    reads_at (suc zero) lt = let e1 : s + (j + 1) ≡ suc (s + j) = omega arith in get_or-drop s bytes (j + 1) 0 ∙ ap (λ i. get_or bytes i 0) e1 ∙ h.1
    reads_at (suc (suc i)) lt = absurd (omega arith)

pub no_end : (bytes : List ℕ) (s : ℕ) → NoneEndsBefore bytes s → FindsNeedle (drop s bytes) (13 ∷ 10 ∷ []) 0 None
    → IsEndFrom bytes None
no_end bytes s before none k lt at =
    elim (cases_lt k s) [
      | inl below ↦ before k below at
      | inr above ↦
          let e : k ≡ s + (k - s) = omega arith in
          let there : OccursAt (drop s bytes) (13 ∷ 10 ∷ []) (k - s) =
          occurs_there bytes s (k - s) (subst (λ i. EndsAt bytes i) e at) in
          none (k - s) (omega arith) (omega (arith, there.fits)) there
    ]

pub first_end : (bytes : List ℕ) (s j : ℕ) → NoneEndsBefore bytes s
    → FindsNeedle (drop s bytes) (13 ∷ 10 ∷ []) 0 (Some j) → IsEndFrom bytes (Some (s + j))
first_end bytes s j before found = (
  ends_there bytes s j found.1,
  λ k lt at. elim (cases_lt k s) [
    | inl below ↦ before k below at
    | inr above ↦
        let e : k ≡ s + (k - s) = omega arith in
        found.0.before (k - s) (omega arith) (omega arith) (occurs_there bytes s (k - s) (subst (λ i. EndsAt bytes i) e at))
  ],
)

-- ---- a line and what comes after it

pub ended_front : (k : ℕ) (bytes : List ℕ) → EndsAt bytes k → bytes ≡ ended (take k bytes) ++ drop 2 (drop k bytes)
ended_front k [] h = absurd (omega (arith, h.1))
ended_front zero (a ∷ []) h = absurd (omega (arith, h.1))
ended_front zero (a ∷ b ∷ bytes) h = cc
ended_front (suc k) (a ∷ bytes) h = ap (λ (x : List ℕ). a ∷ x) (ended_front k bytes h)

pub line_before : (k : ℕ) (bytes : List ℕ) → 0 < k → EndsAt bytes k → NoneEndsBefore bytes k → IsLine (take k bytes)
line_before k bytes some at before =
    let room : k + 2 ≤ length bytes = end_fits bytes k at in
    let len : length (take k bytes) ≡ k = omega (arith, length-take k bytes) in
    record {
      nonempty = omega arith;
      whole = λ j lt here.
          elim (cases_lt (suc j) k) [
            | inl below ↦
                let jk : j < k = omega arith in
                before j jk (sym (get_or-take k bytes j 0 jk) ∙ here.0, sym (get_or-take k bytes (suc j) 0 below) ∙ here.1)
            | inr above ↦
                let past : get_or (take k bytes) (suc j) 0 ≡ 0 = get_or_past (take k bytes) (suc j) 0 (omega arith) in
                absurd (omega (arith, here.1, past))
          ];
    }

-- what is left of bytes, by its length
pub left_by_length : (front rest bytes : List ℕ) → bytes ≡ front ++ rest
    → (length rest ≤ length bytes) × (drop (length bytes - length rest) bytes ≡ rest)
left_by_length front rest bytes e =
    let len : length bytes ≡ length front + length rest = ap length e ∙ length-append front rest in
    (omega arith, ap (drop (length bytes - length rest)) e ∙ drop_at front rest (length bytes - length rest) (omega arith))

-- ---- one line more

pub all_push : {X : Type 0} (P : X → Type 0) (xs : List X) (x : X) → AllByRecursion P xs → P x
    → AllByRecursion P (xs ++ x ∷ [])
all_push P [] x each p = (p, tt)
all_push P (y ∷ xs) x each p = (each.0, all_push P xs x each.1 p)

state_push : (stated : Stated) (lines : List (List ℕ)) (line : List ℕ)
    → stated_after stated (lines ++ line ∷ []) ≡ stated_with (stated_after stated lines) (field_of line)
state_push stated [] line = refl
state_push stated (l ∷ lines) line = state_push (stated_with stated (field_of l)) lines line

pub line_more : (bytes : List ℕ) (stated : Stated) (rest : List ℕ) (after : Stated) (k : ℕ)
    → LinesBefore bytes stated rest after → 0 < k → EndsAt rest k → NoneEndsBefore rest k
    → LinesBefore bytes stated (drop 2 (drop k rest)) (stated_with after (field_of (take k rest)))
line_more bytes stated rest after k so_far some at before = record {
  lines = so_far.lines ++ take k rest ∷ [];
  whole =
      so_far.whole ∙ ap (λ (x : List ℕ). flat_map ended so_far.lines ++ x) (ended_front k rest at)
      ∙ sym (append_assoc (flat_map ended so_far.lines) (ended (take k rest)) (drop 2 (drop k rest)))
      ∙ ap (λ (x : List ℕ). x ++ drop 2 (drop k rest)) (flat_map_more ended [] so_far.lines (take k rest));
  each = all_push IsLine so_far.lines (take k rest) so_far.each (line_before k rest some at before);
  states = state_push stated so_far.lines (take k rest) ∙ ap (λ t. stated_with t (field_of (take k rest))) so_far.states;
}

pub none_yet : (bytes : List ℕ) (stated : Stated) → LinesBefore bytes stated bytes stated
none_yet bytes stated = record { lines = []; whole = refl; each = tt; states = refl }

pub head_ended : (bytes : List ℕ) (stated : Stated) (rest : List ℕ) (after : Stated) (so_far : LinesBefore bytes stated rest after)
    → EndsAt rest 0 → bytes ≡ head_text so_far.lines ++ drop 2 rest
head_ended bytes stated rest after so_far at =
    so_far.whole ∙ ap (λ (x : List ℕ). flat_map ended so_far.lines ++ x) (ended_front 0 rest at)
    ∙ sym (append_assoc (flat_map ended so_far.lines) line_end (drop 2 rest))
