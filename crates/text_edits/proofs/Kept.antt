-- A position before the bytes that changed is where it was.
use Rattle.std.proofs.Common.{◌≡◌, ◌∙◌, ◌+◌, ◌-◌, ◌<◌, ◌≤◌, ◌⊎◌, inl, inr, ◌==◌, zero, suc, ℕ, Bool, true, false, cond, List, [], ◌∷◌, ◌++◌, length, take, drop, reverse, max, refl, sym, ap, append_assoc, arith, length-append, length-take}
use Rattle.std.specs.Prelude.{flat_map}
use Rattle.std.specs.List.{between}
use Rattle.std.proofs.lemmas.Bool.Decides.{leb_tells, eqb_tells}
use Rattle.std.proofs.lemmas.List.{take-append-le, take-take, drop-append-le, reverse-append}
use Rattle.std.proofs.lemmas.Slice.{between_is}
use Rattle.text_edits.specs.Edits.{after, NewPart}
use Rattle.text_edits.specs.Lines.{Line, ends_line, with_byte, lines_of}
use Rattle.text_edits.specs.Positions.{units, byte_in, byte_of}
use Rattle.text_edits.specs.declared.positions.Encoding.{Encoding}
use Rattle.text_edits.specs.declared.positions.Position.{Position}
use Rattle.text_edits.proofs.Columns.{column_end, column_on}
use Rattle.text_edits.proofs.Division.{Plain, lines_end, lines_on, lines_some}

-- a byte before a text, on a line after the first
pub later_ends : (e : Encoding) (b : ℕ) (bs : List ℕ) (line c : ℕ) → ends_line (b ∷ bs) ≡ true → byte_in e (lines_of (b ∷ bs)) (suc line) c ≡ 1 + byte_in e (lines_of bs) line c
later_ends e b bs line c ends = ap (λ ls. byte_in e ls (suc line) c) (lines_end b bs ends) ∙ omega arith

later_with : (e : Encoding) (b : ℕ) (t : Bool) (l : Line) (ls : List Line) (line c : ℕ)
    → byte_in e (cond t (record { bytes = l.bytes; end = b ∷ l.end }) (record { bytes = b ∷ l.bytes; end = l.end }) ∷ ls) (suc line) c ≡ 1 + byte_in e (l ∷ ls) (suc line) c
later_with e b true l ls line c = omega (arith, length-append l.bytes (b ∷ l.end), length-append l.bytes l.end)
later_with e b false l ls line c = omega (arith, length-append (b ∷ l.bytes) l.end, length-append l.bytes l.end)

later_byte : (e : Encoding) (b : ℕ) (ls : List Line) (line c : ℕ) → 0 < length ls → byte_in e (with_byte b ls) (suc line) c ≡ 1 + byte_in e ls (suc line) c
later_byte e b [] line c some = absurd (omega arith)
later_byte e b (l ∷ ls) line c some = later_with e b (b == 13) l ls line c

pub later_on : (e : Encoding) (b : ℕ) (bs : List ℕ) (line c : ℕ) → ends_line (b ∷ bs) ≡ false → byte_in e (lines_of (b ∷ bs)) (suc line) c ≡ 1 + byte_in e (lines_of bs) (suc line) c
later_on e b bs line c on = ap (λ ls. byte_in e ls (suc line) c) (lines_on b bs on) ∙ later_byte e b (lines_of bs) line c (lines_some bs)

-- a byte ends a line, or it is plain
end_or_plain : (b : ℕ) → ((b ≡ 10) ⊎ (b ≡ 13)) ⊎ Plain b
end_or_plain b = elim (eqb_tells b 10) [
  | inl feed ↦ inl (inl feed.1)
  | inr no_feed ↦ elim (eqb_tells b 13) [ inl return ↦ inl (inr return.1) | inr no_return ↦ inr (no_feed.1, no_return.1) ]
]

-- whether a line ends after a byte, the next byte says
ends_alike : (b : ℕ) (bs x : List ℕ) (s : ℕ) → 0 < s → s ≤ length bs → ends_line (b ∷ (take s bs ++ x)) ≡ ends_line (b ∷ bs)
ends_alike b bs x zero some within = absurd (omega arith)
ends_alike b [] x (suc s) some within = absurd (omega arith)
ends_alike b (c ∷ cs) x (suc s) some within = refl

-- the byte of a position before the bytes that changed
pub byte_kept : (e : Encoding) (t x : List ℕ) (s line c : ℕ) → s ≤ length t → byte_in e (lines_of t) line c < s → byte_in e (lines_of (take s t ++ x)) line c ≡ byte_in e (lines_of t) line c
byte_kept e t x zero line c within less = absurd (omega arith)
byte_kept e [] x (suc s) line c within less = absurd (omega arith)
byte_kept e (b ∷ bs) x (suc s) zero c within less = elim (end_or_plain b) [
  | inl ends ↦ column_end e b (take s bs ++ x) c ends ∙ sym (column_end e b bs c ends)
  | inr plain ↦ elim (leb_tells (units e b) c) [
    | inl fits ↦
        let first : byte_in e (lines_of (b ∷ bs)) 0 c ≡ 1 + byte_in e (lines_of bs) 0 (c - units e b)
        = column_on e b bs c plain ∙ ap (λ t. cond t (1 + byte_in e (lines_of bs) 0 (c - units e b)) 0) fits.0 in
        let rest = byte_kept e bs x s 0 (c - units e b) (omega arith) (omega arith) in
        column_on e b (take s bs ++ x) c plain ∙ ap (λ t. cond t (1 + byte_in e (lines_of (take s bs ++ x)) 0 (c - units e b)) 0) fits.0 ∙ ap (λ n. 1 + n) rest ∙ sym first
    | inr full ↦
        column_on e b (take s bs ++ x) c plain ∙ ap (λ t. cond t (1 + byte_in e (lines_of (take s bs ++ x)) 0 (c - units e b)) 0) full.0
        ∙ sym (column_on e b bs c plain ∙ ap (λ t. cond t (1 + byte_in e (lines_of bs) 0 (c - units e b)) 0) full.0)
  ]
]
byte_kept e (b ∷ bs) x (suc s) (suc line) c within less =
    let rest : (n : ℕ) → byte_in e (lines_of bs) n c < s → byte_in e (lines_of (take s bs ++ x)) n c ≡ byte_in e (lines_of bs) n c
    = λ n less. byte_kept e bs x s n c (omega arith) less in
    let ways : (t : Bool) → ends_line (b ∷ bs) ≡ t → byte_in e (lines_of (b ∷ (take s bs ++ x))) (suc line) c ≡ byte_in e (lines_of (b ∷ bs)) (suc line) c
    = λ t. elim t as (λ t. ends_line (b ∷ bs) ≡ t → byte_in e (lines_of (b ∷ (take s bs ++ x))) (suc line) c ≡ byte_in e (lines_of (b ∷ bs)) (suc line) c) [
      | true ↦ λ ends.
          let first = later_ends e b bs line c ends in
          let alike = ends_alike b bs x s (omega (arith, first, less)) (omega arith) in
          later_ends e b (take s bs ++ x) line c (alike ∙ ends) ∙ ap (λ n. 1 + n) (rest line (omega (arith, first, less))) ∙ sym first
      | false ↦ λ on.
          let first = later_on e b bs line c on in
          let alike = ends_alike b bs x s (omega (arith, first, less)) (omega arith) in
          later_on e b (take s bs ++ x) line c (alike ∙ on) ∙ ap (λ n. 1 + n) (rest (suc line) (omega (arith, first, less))) ∙ sym first
    ] in
    ways (ends_line (b ∷ bs)) refl

-- a part that ends before the bytes that changed
pub part_kept : (e : Encoding) (t x new : List ℕ) (s from to : ℕ) (p q : Position) → s ≤ length t → from ≡ byte_of e (lines_of t) p → to ≡ max from (byte_of e (lines_of t) q) → to < s
    → take from t ++ (new ++ drop to (take s t ++ x)) ≡ after e (take s t ++ x) (NewPart p q new)
part_kept e t x new s from to p q within from_is to_is less =
    let now : List ℕ = take s t ++ x in
    let start : byte_of e (lines_of now) p ≡ from = byte_kept e t x s p.line p.character within (omega (arith, from_is, to_is, less)) ∙ sym from_is in
    let end : byte_of e (lines_of now) q ≡ byte_of e (lines_of t) q = byte_kept e t x s q.line q.character within (omega (arith, to_is, less)) in
    let last : max (byte_of e (lines_of now) p) (byte_of e (lines_of now) q) ≡ to = omega (arith, start, end, to_is) in
    let front : take from now ≡ take from t = take-append-le from (take s t) x (omega (arith, length-take s t, to_is)) ∙ take-take from s t (omega (arith, to_is)) in
    ap (λ bytes. bytes ++ (new ++ drop to now)) (sym front)
    ∙ ap (λ n. take n now ++ (new ++ drop to now)) (sym start) ∙ ap (λ n. take (byte_of e (lines_of now) p) now ++ (new ++ drop n now)) (sym last)

-- a piece more
pub pieces_more : {X : Type 0} (f : X → List ℕ) (xs : List X) (x : X) → flat_map f (reverse (xs ++ x ∷ [])) ≡ f x ++ flat_map f (reverse xs)
pieces_more f xs x = ap (flat_map f) (reverse-append xs (x ∷ []))

-- a new text in place of a part of the front, where the rest of the front is kept
pub with_piece : (text new after tail : List ℕ) (to kept : ℕ) → to ≤ kept → kept ≤ length text → after ≡ between to kept text → (new ++ after) ++ tail ≡ new ++ drop to (take kept text ++ tail)
with_piece text new after tail to kept before within is =
    append_assoc new after tail
    ∙ ap (λ bytes. new ++ (bytes ++ tail)) (is ∙ between_is text to kept) ∙ ap (λ bytes. new ++ bytes) (sym (drop-append-le to (take kept text) tail (omega (arith, length-take kept text))))
