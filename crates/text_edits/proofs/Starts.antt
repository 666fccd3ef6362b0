-- Where lines begin.
use Rattle.std.proofs.Common.{◌≡◌, ◌∙◌, ◌+◌, ◌<◌, ◌≤◌, ◌==◌, zero, suc, ℕ, Bool, true, false, cond, List, [], ◌∷◌, ◌++◌, length, get_or, drop, refl, sym, ap, append_assoc, append-nil, arith, length-append, length-drop}
use Rattle.std.specs.Prelude.{flat_map}
use Rattle.std.proofs.lemmas.List.{drop_all, drop_more, drop-drop, drop_at}
use Rattle.std.proofs.lemmas.List.Elements.{All-drop}
use Rattle.text_edits.specs.Lines.{Line, whole, EndWhole, AreLines, ends_line, with_byte, lines_of, starts_from, starts_of}
use Rattle.text_edits.proofs.Division.{at_end, lines_some, lines_end, lines_on, no_lines, are_lines, found_lines, PlainLine}

-- where the lines after the first of those begin that come after this many bytes
abbrev pub later : List ℕ → ℕ → List ℕ
later text at = drop 1 (starts_from at (lines_of (drop at text)))

first_start : (at : ℕ) (ls : List Line) → 0 < length ls → starts_from at ls ≡ at ∷ drop 1 (starts_from at ls)
first_start at [] some = absurd (omega arith)
first_start at (l ∷ ls) some = refl

byte_more : (b at : ℕ) (l : Line) (t : Bool)
    → at + length (whole (cond t (record { bytes = l.bytes; end = b ∷ l.end }) (record { bytes = b ∷ l.bytes; end = l.end }))) ≡ (at + 1) + length (whole l)
byte_more b at l true = omega (arith, length-append l.bytes (b ∷ l.end), length-append l.bytes l.end)
byte_more b at l false = omega (arith, length-append (b ∷ l.bytes) l.end, length-append l.bytes l.end)

with_byte_start : (b at : ℕ) (ls : List Line) → drop 1 (starts_from at (with_byte b ls)) ≡ drop 1 (starts_from (at + 1) ls)
with_byte_start b at [] = refl
with_byte_start b at (l ∷ ls) = ap (λ a. starts_from a ls) (byte_more b at l (b == 13))

pub later_ends : (text : List ℕ) (at : ℕ) → at < length text → ends_line (drop at text) ≡ true → later text at ≡ (at + 1) ∷ later text (at + 1)
later_ends text at h e =
    let b : ℕ = get_or text at 0 in
    let bs : List ℕ = drop (at + 1) text in
    let split : drop at text ≡ b ∷ bs = drop_more text at 0 h in
    let is : lines_of (drop at text) ≡ at_end (b ∷ []) ∷ lines_of bs = rw split (lines_end b bs (rw split at e)) in
    ap (λ ls. drop 1 (starts_from at ls)) is ∙ first_start (at + 1) (lines_of bs) (lines_some bs)

pub later_on : (text : List ℕ) (at : ℕ) → at < length text → ends_line (drop at text) ≡ false → later text at ≡ later text (at + 1)
later_on text at h e =
    let b : ℕ = get_or text at 0 in
    let bs : List ℕ = drop (at + 1) text in
    let split : drop at text ≡ b ∷ bs = drop_more text at 0 h in
    let is : lines_of (drop at text) ≡ with_byte b (lines_of bs) = rw split (lines_on b bs (rw split at e)) in
    ap (λ ls. drop 1 (starts_from at ls)) is ∙ with_byte_start b at (lines_of bs)

pub later_first : (text : List ℕ) → (0 ∷ []) ++ later text 0 ≡ starts_of (lines_of text)
later_first text = sym (first_start 0 (lines_of text) (lines_some text))

pub later_none : (text : List ℕ) (at : ℕ) → length text ≤ at → later text at ≡ []
later_none text at h = rw (drop_all at text h, no_lines) refl

-- with what was found before
pub found_first : (text starts : List ℕ) → starts ≡ 0 ∷ [] → starts ++ later text 0 ≡ starts_of (lines_of text)
found_first text starts is = rw is (later_first text)

pub found_start : (text starts more all : List ℕ) (at : ℕ) → at < length text → true ≡ ends_line (drop at text) → more ≡ starts ++ (at + 1) ∷ [] → starts ++ later text at ≡ all
    → more ++ later text (at + 1) ≡ all
found_start text starts more all at h e is rest =
    ap (λ xs. xs ++ later text (at + 1)) is ∙ (rw append_assoc refl)
    ∙ ap (λ xs. starts ++ xs) (sym (later_ends text at h (sym e))) ∙ rest

pub found_none : (text starts all : List ℕ) (at : ℕ) → at < length text → false ≡ ends_line (drop at text) → starts ++ later text at ≡ all → starts ++ later text (at + 1) ≡ all
found_none text starts all at h e rest = ap (λ xs. starts ++ xs) (sym (later_on text at h (sym e))) ∙ rest

pub found_all : (text starts all : List ℕ) (at : ℕ) → length text ≤ at → starts ++ later text at ≡ all → starts ≡ all
found_all text starts all at h rest = sym (append-nil starts) ∙ ap (λ xs. starts ++ xs) (sym (later_none text at h)) ∙ rest

-- how many bytes are before the line
abbrev pub offset : List Line → ℕ → ℕ
offset [] line = 0
offset (l ∷ ls) zero = 0
offset (l ∷ ls) (suc line) = length (whole l) + offset ls line

pub starts_length : (at : ℕ) (ls : List Line) → length (starts_from at ls) ≡ length ls
starts_length at [] = refl
starts_length at (l ∷ ls) = ap suc (starts_length (at + length (whole l)) ls)

pub start_is : (at : ℕ) (ls : List Line) (line : ℕ) → line < length ls → get_or (starts_from at ls) line 0 ≡ at + offset ls line
start_is at [] line h = absurd (omega arith)
start_is at (l ∷ ls) zero h = omega arith
start_is at (l ∷ ls) (suc line) h = start_is (at + length (whole l)) ls line (omega arith) ∙ omega arith

pub drop_offset : (ls : List Line) (line : ℕ) → line < length ls → drop (offset ls line) (flat_map whole ls) ≡ flat_map whole (drop line ls)
drop_offset [] line h = absurd (omega arith)
drop_offset (l ∷ ls) zero h = refl
drop_offset (l ∷ ls) (suc line) h =
    let text : List ℕ = flat_map whole ls in
    sym (drop-drop (offset ls line) (length (whole l)) (whole l ++ text)) ∙ ap (drop (offset ls line)) (drop_at (whole l) text (length (whole l)) refl)
    ∙ drop_offset ls line (omega arith)

pub offset_within : (ls : List Line) (line : ℕ) → line < length ls → offset ls line ≤ length (flat_map whole ls)
offset_within [] line h = absurd (omega arith)
offset_within (l ∷ ls) zero h = omega arith
offset_within (l ∷ ls) (suc line) h =
    let rest = offset_within ls line (omega arith) in omega (arith, rest, length-append (whole l) (flat_map whole ls))

ends_drop : (ls : List Line) (line : ℕ) → EndWhole ls → EndWhole (drop line ls)
ends_drop ls zero h = h
ends_drop [] (suc line) h = tt
ends_drop (l ∷ ls) (suc line) h = ends_drop ls line h.1

-- what begins at the start of a line is divided as the lines from there on
pub lines_from : (text : List ℕ) (line : ℕ) → line < length (lines_of text) → lines_of (drop (offset (lines_of text) line) text) ≡ drop line (lines_of text)
lines_from text line h =
    let ls : List Line = lines_of text in
    let are : AreLines text ls = are_lines text in
    let there : drop (offset ls line) text ≡ flat_map whole (drop line ls) = ap (drop (offset ls line)) (sym are.all) ∙ drop_offset ls line h in
    ap lines_of there ∙ found_lines (drop line ls) (omega (arith, length-drop line ls)) (All-drop PlainLine line ls are.inside) (ends_drop ls line are.ends)
