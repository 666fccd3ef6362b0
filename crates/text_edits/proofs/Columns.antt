-- The byte at which a character of a line is.
use Rattle.std.proofs.Common.{◌≡◌, ◌∙◌, ◌+◌, ◌-◌, ◌<◌, ◌≤◌, ◌⊎◌, inl, inr, zero, suc, ℕ, cond, List, [], ◌∷◌, length, get_or, drop, refl, sym, ap, arith, length-append}
use Rattle.std.specs.Prelude.{flat_map, nat_le}
use Rattle.std.proofs.lemmas.List.{drop_all, drop_more}
use Rattle.std.proofs.lemmas.Bool.{le-leb, lt-leb}
use Rattle.text_edits.specs.Lines.{Line, whole, lines_of, starts_of}
use Rattle.text_edits.specs.Positions.{units, byte_in}
use Rattle.text_edits.specs.declared.positions.Encoding.{Encoding}
use Rattle.text_edits.proofs.Division.{Plain, ended, both, inside, first_of_text, no_lines, are_lines}
use Rattle.text_edits.proofs.Starts.{offset, starts_length, start_is, offset_within, lines_from}

-- the column of the line in which the text begins
abbrev pub column : Encoding → List ℕ → ℕ → ℕ
column e text character = byte_in e (lines_of text) 0 character

column_none : (e : Encoding) (c : ℕ) → column e [] c ≡ 0
column_none e c = rw no_lines refl

pub column_end : (e : Encoding) (b : ℕ) (bs : List ℕ) (c : ℕ) → (b ≡ 10) ⊎ (b ≡ 13) → column e (b ∷ bs) c ≡ 0
column_end e b bs c ends = elim (first_of_text b bs) [
  | ended _ _ is ↦ rw is refl
  | both _ _ ls _ is ↦ rw is refl
  | inside no_feed no_return _ _ _ _ _ ↦ elim ends [ inl h ↦ absurd (no_feed h) | inr h ↦ absurd (no_return h) ]
]

pub column_on : (e : Encoding) (b : ℕ) (bs : List ℕ) (c : ℕ) → Plain b → column e (b ∷ bs) c ≡ cond (nat_le (units e b) c) (1 + column e bs (c - units e b)) 0
column_on e b bs c plain = elim (first_of_text b bs) [
  | ended ends _ _ ↦ elim ends [ inl h ↦ absurd (plain.0 h) | inr h ↦ absurd (plain.1 h.0) ]
  | both h _ _ _ _ ↦ absurd (plain.1 h)
  | inside _ _ _ l ls next is ↦ rw (is, next) refl
]

-- the column, with what was passed before
pub column_ends : (e : Encoding) (text : List ℕ) (at c all : ℕ) → at < length text → (get_or text at 0 ≡ 10) ⊎ (get_or text at 0 ≡ 13) → at + column e (drop at text) c ≡ all → at ≡ all
column_ends e text at c all h ends is =
    let none : column e (drop at text) c ≡ 0 = ap (λ t. column e t c) (drop_more text at 0 h) ∙ column_end e (get_or text at 0) (drop (at + 1) text) c ends in
    omega (arith, none, is)

pub column_full : (e : Encoding) (text : List ℕ) (at c all : ℕ) → at < length text → Plain (get_or text at 0) → c < units e (get_or text at 0) → at + column e (drop at text) c ≡ all → at ≡ all
column_full e text at c all h plain full is =
    let b : ℕ = get_or text at 0 in
    let bs : List ℕ = drop (at + 1) text in
    let none : column e (drop at text) c ≡ 0
    = ap (λ t. column e t c) (drop_more text at 0 h) ∙ column_on e b bs c plain ∙ ap (λ t. cond t (1 + column e bs (c - units e b)) 0) (lt-leb (units e b) c full) in
    omega (arith, none, is)

pub column_more : (e : Encoding) (text : List ℕ) (at c all : ℕ) → at < length text → Plain (get_or text at 0) → units e (get_or text at 0) ≤ c → at + column e (drop at text) c ≡ all
    → (at + 1) + column e (drop (at + 1) text) (c - units e (get_or text at 0)) ≡ all
column_more e text at c all h plain fits is =
    let b : ℕ = get_or text at 0 in
    let bs : List ℕ = drop (at + 1) text in
    let more : column e (drop at text) c ≡ 1 + column e bs (c - units e b)
    = ap (λ t. column e t c) (drop_more text at 0 h) ∙ column_on e b bs c plain ∙ ap (λ t. cond t (1 + column e bs (c - units e b)) 0) (le-leb (units e b) c fits) in
    omega (arith, more, is)

pub column_all : (e : Encoding) (text : List ℕ) (at c all : ℕ) → length text ≤ at → at + column e (drop at text) c ≡ all → at ≡ all
column_all e text at c all h is =
    let none : column e (drop at text) c ≡ 0 = ap (λ t. column e t c) (drop_all at text h) ∙ column_none e c in omega (arith, none, is)

-- lines before
pub byte_in_line : (e : Encoding) (ls : List Line) (line c : ℕ) → line < length ls → byte_in e ls line c ≡ offset ls line + byte_in e (drop line ls) 0 c
byte_in_line e [] line c h = absurd (omega arith)
byte_in_line e (l ∷ ls) zero c h = omega arith
byte_in_line e (l ∷ ls) (suc line) c h = let rest = byte_in_line e ls line c (omega arith) in omega (arith, rest)

pub byte_beyond : (e : Encoding) (ls : List Line) (line c : ℕ) → length ls ≤ line → byte_in e ls line c ≡ length (flat_map whole ls)
byte_beyond e [] line c h = refl
byte_beyond e (l ∷ ls) zero c h = absurd (omega arith)
byte_beyond e (l ∷ ls) (suc line) c h = let rest = byte_beyond e ls line c (omega arith) in omega (arith, rest, length-append (whole l) (flat_map whole ls))

-- the same of a text, whose lines begin at these bytes
pub line_start : (text starts : List ℕ) (line : ℕ) → starts ≡ starts_of (lines_of text) → line < length starts → (line < length (lines_of text)) × (get_or starts line 0 ≡ offset (lines_of text) line)
line_start text starts line e h =
    let ls : List Line = lines_of text in
    let within : line < length ls = omega (arith, ap length e, starts_length 0 ls) in
    (within, ap (λ xs. get_or xs line 0) e ∙ start_is 0 ls line within ∙ omega arith)

pub start_within : (text starts : List ℕ) (line : ℕ) → starts ≡ starts_of (lines_of text) → line < length starts → get_or starts line 0 ≤ length text
start_within text starts line e h =
    let there = line_start text starts line e h in
    omega (arith, there.1, offset_within (lines_of text) line there.0, ap length (are_lines text).all)

pub byte_past : (enc : Encoding) (text starts : List ℕ) (line c : ℕ) → starts ≡ starts_of (lines_of text) → length starts ≤ line → length text ≡ byte_in enc (lines_of text) line c
byte_past enc text starts line c e h =
    let ls : List Line = lines_of text in
    sym (byte_beyond enc ls line c (omega (arith, ap length e, starts_length 0 ls)) ∙ ap length (are_lines text).all)

pub byte_within : (enc : Encoding) (text starts rest : List ℕ) (line c start at : ℕ) → starts ≡ starts_of (lines_of text) → line < length starts → start ≡ get_or starts line 0
    → rest ≡ drop start text → at ≡ column enc rest c → start + at ≡ byte_in enc (lines_of text) line c
byte_within enc text starts rest line c start at e h start_is rest_is at_is =
    let ls : List Line = lines_of text in
    let there = line_start text starts line e h in
    let begins : start ≡ offset ls line = start_is ∙ there.1 in
    let rest_of : rest ≡ drop (offset ls line) text = rest_is ∙ ap (λ n. drop n text) begins in
    let column_is : at ≡ byte_in enc (drop line ls) 0 c = at_is ∙ ap (λ t. column enc t c) rest_of ∙ ap (λ xs. byte_in enc xs 0 c) (lines_from text line there.0) in
    omega (arith, begins, column_is, byte_in_line enc ls line c there.0)
