-- The position of a byte, from that of the byte before it.
use Rattle.std.proofs.Common.{◌≡◌, ◌≢◌, ◌∙◌, ◌+◌, ◌-◌, ◌<◌, ◌≤◌, ◌⊎◌, inl, inr, ◌||◌, ◌==◌, zero, suc, ℕ, Bool, true, false, cond, List, [], ◌∷◌, length, get_or, take, drop, refl, sym, ap, arith, add-one, length-append}
use Rattle.std.specs.Prelude.{nat_lt, sum_by, slice_index}
use Rattle.std.proofs.lemmas.Bool.{lt-ltb, le-ltb, ne_eqb}
use Rattle.std.proofs.lemmas.Bool.Decides.{leb_tells}
use Rattle.std.proofs.lemmas.List.Sums.{sum_by-cons}
use Rattle.text_edits.specs.Lines.{Line, whole, IsEndBefore, EndWhole, ends_line, lines_of, starts_of}
use Rattle.text_edits.specs.Positions.{units, below, position_of}
use Rattle.text_edits.specs.Walks.{position_after, IsReached}
use Rattle.text_edits.specs.declared.positions.Encoding.{Encoding}
use Rattle.text_edits.specs.declared.positions.Position.{Position}
use Rattle.text_edits.proofs.Division.{at_end, ended, both, inside, first_of_text, lines_some, no_lines, are_lines}
use Rattle.text_edits.proofs.Starts.{offset, start_is, starts_length}
use Rattle.text_edits.proofs.Columns.{line_start, start_within}

abbrev pub begun : Position
begun = record { line = 0; character = 0 }

-- within the first line, and after it
pub within_line : (e : Encoding) (l : Line) (ls : List Line) (k : ℕ) → (k < length (whole l)) ⊎ (ls ≡ []) → position_of e (l ∷ ls) k ≡ record { line = 0; character = sum_by (units e) (take k l.bytes) }
within_line e l ls k (inl h) = rw (lt-ltb k (length (whole l)) h) refl
within_line e l ls k (inr h) = rw h (last (nat_lt k (length (whole l))))
  where
    last : (t : Bool) → cond (t || true) (record { line = 0; character = sum_by (units e) (take k l.bytes) }) (below (position_of e [] (k - length (whole l)))) ≡ record { line = 0; character = sum_by (units e) (take k l.bytes) }
    last true = refl
    last false = refl

pub after_line : (e : Encoding) (l : Line) (ls : List Line) (k : ℕ) → length (whole l) ≤ k → 0 < length ls → position_of e (l ∷ ls) k ≡ below (position_of e ls (k - length (whole l)))
after_line e l ls k h some = let other : length ls ≢ 0 = omega arith in rw (le-ltb k (length (whole l)) h, ne_eqb (length ls) 0 other) refl

pub starts_at : (e : Encoding) (text : List ℕ) → position_of e (lines_of text) 0 ≡ begun
starts_at e [] = rw no_lines refl
starts_at e (b ∷ bs) = elim (first_of_text b bs) [
  | ended _ _ is ↦ rw is refl
  | both _ _ ls _ is ↦ rw is refl
  | inside _ _ _ l ls _ is ↦ rw is (within_line e (record { bytes = b ∷ l.bytes; end = l.end }) ls 0 (inl (omega arith)))
]

-- more units before a position, if it is on the first line
abbrev pub shifted : ℕ → Position → Position
shifted u p = record { line = p.line; character = cond (p.line == 0) (u + p.character) p.character }

-- how the positions move where the byte is put before the text
pub record Moved (e : Encoding) (b : ℕ) (bs : List ℕ) (move : Position → Position) : Type 0 where
  pub later : (k : ℕ) → position_of e (lines_of (b ∷ bs)) (suc k) ≡ move (position_of e (lines_of bs) k)
  pub steps : (rest : List ℕ) (p : Position) → move (position_after e rest p) ≡ position_after e rest (move p)
  pub first : move begun ≡ position_after e (b ∷ bs) begun
  pub line : (p : Position) → (move p).line ≤ p.line + 1
  pub character : (p : Position) → (move p).character ≤ units e b + p.character

-- a step, by what is at the byte
abbrev stepped : Bool → Bool → ℕ → Position → Position
stepped s t u p = cond s (record { line = p.line + 1; character = 0 }) (cond t p (record { line = p.line; character = p.character + u }))

below_steps : (s t : Bool) (u : ℕ) (p : Position) → below (stepped s t u p) ≡ stepped s t u (below p)
below_steps true t u p = refl
below_steps false true u p = refl
below_steps false false u p = refl

shifted_more : (t : Bool) (line c more u : ℕ) → cond t (more + (c + u)) (c + u) ≡ cond t (more + c) c + u
shifted_more true line c more u = omega arith
shifted_more false line c more u = refl

shifted_steps : (s t : Bool) (u more : ℕ) (p : Position) → shifted more (stepped s t u p) ≡ stepped s t u (shifted more p)
shifted_steps true t u more p = let other : p.line + 1 ≢ 0 = omega arith in rw (ne_eqb (p.line + 1) 0 other) refl
shifted_steps false true u more p = refl
shifted_steps false false u more p = ap (λ c. record { line = p.line; character = c }) (shifted_more (p.line == 0) p.line p.character more u)

shifted_line : (t : Bool) (more c : ℕ) → cond t (more + c) c ≤ more + c
shifted_line true more c = omega arith
shifted_line false more c = omega arith

-- the positions where the byte ends a line, where it is half of an end, and where it is in a line
pub ended_moves : (e : Encoding) (b : ℕ) (bs : List ℕ) → ends_line (b ∷ bs) ≡ true → lines_of (b ∷ bs) ≡ at_end (b ∷ []) ∷ lines_of bs → Moved e b bs below
ended_moves e b bs ends is = record {
  later = λ k. ap (λ ls. position_of e ls (suc k)) is ∙ after_line e (at_end (b ∷ [])) (lines_of bs) (suc k) (omega arith) (lines_some bs) ∙ ap (λ n. below (position_of e (lines_of bs) n)) (omega arith);
  steps = λ rest p. below_steps (ends_line rest) (slice_index rest 0 == 13) (units e (slice_index rest 0)) p;
  first = rw ends refl;
  line = λ p. omega arith;
  character = λ p. omega arith;
}

ends_alike : (e : Encoding) (ls : List Line) (k : ℕ) → position_of e (at_end (13 ∷ 10 ∷ []) ∷ ls) (suc k) ≡ position_of e (at_end (10 ∷ []) ∷ ls) k
ends_alike e ls zero = refl
ends_alike e [] (suc k) = within_line e (at_end (13 ∷ 10 ∷ [])) [] (suc (suc k)) (inr refl) ∙ sym (within_line e (at_end (10 ∷ [])) [] (suc k) (inr refl))
ends_alike e (l ∷ ls) (suc k) =
    after_line e (at_end (13 ∷ 10 ∷ [])) (l ∷ ls) (suc (suc k)) (omega arith) (omega arith) ∙ ap (λ n. below (position_of e (l ∷ ls) n)) (omega arith)
    ∙ sym (after_line e (at_end (10 ∷ [])) (l ∷ ls) (suc k) (omega arith) (omega arith))

lines_within : (e : Encoding) (b : ℕ) (l : Line) (ls : List Line) (k : ℕ) → (k < length (whole l)) ⊎ (ls ≡ [])
    → position_of e (record { bytes = b ∷ l.bytes; end = l.end } ∷ ls) (suc k) ≡ shifted (units e b) (position_of e (l ∷ ls) k)
lines_within e b l ls k h =
    let on : (suc k < suc (length (whole l))) ⊎ (ls ≡ []) = elim h [ inl h ↦ inl (omega arith) | inr h ↦ inr h ] in
    within_line e (record { bytes = b ∷ l.bytes; end = l.end }) ls (suc k) on ∙ ap (λ c. record { line = 0; character = c }) (sum_by-cons (units e) b (take k l.bytes))
    ∙ ap (shifted (units e b)) (sym (within_line e l ls k h))

lines_after : (e : Encoding) (b : ℕ) (l m : Line) (ls : List Line) (k : ℕ) → length (whole l) ≤ k
    → position_of e (record { bytes = b ∷ l.bytes; end = l.end } ∷ m ∷ ls) (suc k) ≡ shifted (units e b) (position_of e (l ∷ m ∷ ls) k)
lines_after e b l m ls k h =
    let rest : Position = position_of e (m ∷ ls) (k - length (whole l)) in
    let other : rest.line + 1 ≢ 0 = omega arith in
    let apart : shifted (units e b) (below rest) ≡ below rest = rw (ne_eqb (rest.line + 1) 0 other) refl in
    after_line e (record { bytes = b ∷ l.bytes; end = l.end }) (m ∷ ls) (suc k) (omega arith) (omega arith) ∙ ap (λ n. below (position_of e (m ∷ ls) n)) (omega arith)
    ∙ sym apart ∙ ap (shifted (units e b)) (sym (after_line e l (m ∷ ls) k h (omega arith)))

lines_alike : (e : Encoding) (b : ℕ) (l : Line) (ls : List Line) (k : ℕ) → position_of e (record { bytes = b ∷ l.bytes; end = l.end } ∷ ls) (suc k) ≡ shifted (units e b) (position_of e (l ∷ ls) k)
lines_alike e b l [] k = lines_within e b l [] k (inr refl)
lines_alike e b l (m ∷ ls) k = elim (leb_tells (length (whole l)) k) [
  | inl following ↦ lines_after e b l m ls k following.1
  | inr within ↦ lines_within e b l (m ∷ ls) k (inl within.1)
]

pub both_moves : (e : Encoding) (b : ℕ) (bs : List ℕ) (ls : List Line) → b ≡ 13 → ends_line (b ∷ bs) ≡ false → lines_of bs ≡ at_end (10 ∷ []) ∷ ls → lines_of (b ∷ bs) ≡ at_end (13 ∷ 10 ∷ []) ∷ ls
    → Moved e b bs (λ p. p)
both_moves e b bs ls return ends next is = record {
  later = λ k. ap (λ xs. position_of e xs (suc k)) is ∙ ends_alike e ls k ∙ ap (λ xs. position_of e xs k) (sym next);
  steps = λ rest p. refl;
  first = rw (ends, return) refl;
  line = λ p. omega arith;
  character = λ p. omega arith;
}

pub inside_moves : (e : Encoding) (b : ℕ) (bs : List ℕ) (l : Line) (ls : List Line) → b ≢ 13 → ends_line (b ∷ bs) ≡ false → lines_of bs ≡ l ∷ ls
    → lines_of (b ∷ bs) ≡ record { bytes = b ∷ l.bytes; end = l.end } ∷ ls → Moved e b bs (shifted (units e b))
inside_moves e b bs l ls plain ends next is = record {
  later = λ k. ap (λ xs. position_of e xs (suc k)) is ∙ lines_alike e b l ls k ∙ ap (λ xs. shifted (units e b) (position_of e xs k)) (sym next);
  steps = λ rest p. shifted_steps (ends_line rest) (slice_index rest 0 == 13) (units e (slice_index rest 0)) (units e b) p;
  first = rw (ends, ne_eqb b 13 plain) (ap (λ c. record { line = 0; character = c }) (omega arith));
  line = λ p. omega arith;
  character = λ p. shifted_line (p.line == 0) (units e b) p.character;
}

pub moved : (e : Encoding) (b : ℕ) (bs : List ℕ) → (move : Position → Position) × Moved e b bs move
moved e b bs = elim (first_of_text b bs) [
  | ended _ ends is ↦ (below, ended_moves e b bs ends is)
  | both return ends ls next is ↦ ((λ p. p), both_moves e b bs ls return ends next is)
  | inside _ plain ends l ls next is ↦ (shifted (units e b), inside_moves e b bs l ls plain ends next is)
]

pub one_more : (e : Encoding) (text : List ℕ) (k : ℕ) → k < length text → position_of e (lines_of text) (suc k) ≡ position_after e (drop k text) (position_of e (lines_of text) k)
one_more e [] k h = absurd (omega arith)
one_more e (b ∷ bs) zero h =
    let (move, is) = moved e b bs in
    is.later 0 ∙ ap move (starts_at e bs) ∙ is.first ∙ ap (position_after e (b ∷ bs)) (sym (starts_at e (b ∷ bs)))
one_more e (b ∷ bs) (suc k) h =
    let (move, is) = moved e b bs in
    is.later (suc k) ∙ ap move (one_more e bs k (omega arith)) ∙ is.steps (drop k bs) (position_of e (lines_of bs) k) ∙ ap (position_after e (drop k bs)) (sym (is.later k))

pub line_bound : (e : Encoding) (text : List ℕ) (k : ℕ) → k ≤ length text → (position_of e (lines_of text) k).line ≤ k
line_bound e text zero h = omega (arith, ap (λ (p : Position). p.line) (starts_at e text))
line_bound e [] (suc k) h = absurd (omega arith)
line_bound e (b ∷ bs) (suc k) h =
    let (move, is) = moved e b bs in
    omega (arith, ap (λ (p : Position). p.line) (is.later k), is.line (position_of e (lines_of bs) k), line_bound e bs k (omega arith))

pub character_bound : (e : Encoding) (text : List ℕ) (k : ℕ) → k ≤ length text → (position_of e (lines_of text) k).character ≤ sum_by (units e) (take k text)
character_bound e text zero h = omega (arith, ap (λ (p : Position). p.character) (starts_at e text))
character_bound e [] (suc k) h = absurd (omega arith)
character_bound e (b ∷ bs) (suc k) h =
    let (move, is) = moved e b bs in
    omega (arith, ap (λ (p : Position). p.character) (is.later k), is.character (position_of e (lines_of bs) k), character_bound e bs k (omega arith), sum_by-cons (units e) b (take k bs))

-- a byte of a line, or that of its end, is on the line
pub on_line : (l : Line) (ls : List Line) (k : ℕ) → IsEndBefore l.end ls → k ≤ length l.bytes → (k < length (whole l)) ⊎ (ls ≡ [])
on_line l [] k is h = inr refl
on_line l (m ∷ ls) k is h =
    let end : 0 < length l.end = elim is [ inl e ↦ omega (arith, ap length e) | inr other ↦ elim other [ inl e ↦ omega (arith, ap length e.0) | inr e ↦ omega (arith, ap length e) ] ] in
    inl (omega (arith, end, length-append l.bytes l.end))

-- a line begins with no unit
pub line_begins : (e : Encoding) (ls : List Line) (line : ℕ) → EndWhole ls → line < length ls → position_of e ls (offset ls line) ≡ record { line = line; character = 0 }
line_begins e [] line ends h = absurd (omega arith)
line_begins e (l ∷ ls) zero ends h = within_line e l ls 0 (on_line l ls 0 ends.0 (omega arith))
line_begins e (l ∷ ls) (suc line) ends h =
    let at : ℕ = length (whole l) + offset ls line in
    let rest : at - length (whole l) ≡ offset ls line = omega arith in
    after_line e l ls at (omega arith) (omega arith) ∙ ap (λ k. below (position_of e ls k)) rest ∙ ap below (line_begins e ls line ends.1 (omega arith)) ∙ rw add-one refl

-- the same of a text, whose lines begin at these bytes
pub line_reached : (e : Encoding) (text starts : List ℕ) (line start : ℕ) → starts ≡ starts_of (lines_of text) → line < length starts → start ≡ get_or starts line 0
    → IsReached e text (record { byte = start; position = record { line = line; character = 0 } })
line_reached e text starts line start is h start_is =
    let there = line_start text starts line is h in
    let at : start ≡ offset (lines_of text) line = start_is ∙ there.1 in
    (omega (arith, start_within text starts line is h, start_is), sym (ap (position_of e (lines_of text)) at ∙ line_begins e (lines_of text) line (are_lines text).ends there.0))

pub first_start : (text starts : List ℕ) → starts ≡ starts_of (lines_of text) → (0 < length starts) × (get_or starts 0 0 ≡ 0)
first_start text starts is =
    let some : 0 < length starts = omega (arith, ap length is, starts_length 0 (lines_of text), lines_some text) in
    (some, ap (λ xs. get_or xs 0 0) is ∙ start_is 0 (lines_of text) 0 (lines_some text) ∙ offset_none (lines_of text))
  where
    offset_none : (ls : List Line) → 0 + offset ls 0 ≡ 0
    offset_none [] = refl
    offset_none (l ∷ ls) = refl
