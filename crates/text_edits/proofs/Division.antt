-- A text has one list of lines.
use Rattle.std.proofs.Common.{◌≡◌, ◌≢◌, ◌∙◌, ◌↔◌, ◌<◌, ◌⊎◌, inl, inr, ℕ, Bool, true, false, List, [], ◌∷◌, ◌++◌, length, refl, sym, ap, subst, append_assoc, arith}
use Rattle.std.specs.Prelude.{flat_map, slice_index, All}
use Rattle.std.proofs.lemmas.Bool.{ne_eqb}
use Rattle.std.proofs.lemmas.Bool.Decides.{eqb_tells}
use Rattle.std.proofs.lemmas.List.Elements.{All-nil, All-cons, All-head, All-tail}
use Rattle.text_edits.specs.Lines.{Line, whole, IsEndBefore, EndWhole, AreLines, ends_line, with_byte, lines_of}

abbrev pub at_end : List ℕ → Line
at_end end = record { bytes = []; end = end }

abbrev pub Plain : ℕ → Type 0
Plain b = (b ≢ 10) × (b ≢ 13)

abbrev pub PlainLine : Line → Type 0
PlainLine l = All Plain l.bytes

pub lines_end : (b : ℕ) (bs : List ℕ) → ends_line (b ∷ bs) ≡ true → lines_of (b ∷ bs) ≡ at_end (b ∷ []) ∷ lines_of bs
unfolding lines_of
lines_end b bs e = rw e refl

pub lines_on : (b : ℕ) (bs : List ℕ) → ends_line (b ∷ bs) ≡ false → lines_of (b ∷ bs) ≡ with_byte b (lines_of bs)
unfolding lines_of
lines_on b bs e = rw e refl

pub no_lines : lines_of [] ≡ at_end [] ∷ []
unfolding lines_of
no_lines = refl

-- what ends a line, and what does not
feed_ends : (bs : List ℕ) → ends_line (10 ∷ bs) ≡ true
feed_ends bs = refl

return_ends : (bs : List ℕ) → slice_index bs 0 ≢ 10 → ends_line (13 ∷ bs) ≡ true
return_ends bs h = rw (ne_eqb (slice_index bs 0) 10 h) refl

return_goes_on : (bs : List ℕ) → slice_index bs 0 ≡ 10 → ends_line (13 ∷ bs) ≡ false
return_goes_on bs h = rw h refl

plain_goes_on : (b : ℕ) (bs : List ℕ) → Plain b → ends_line (b ∷ bs) ≡ false
plain_goes_on b bs h = rw (ne_eqb b 10 h.0, ne_eqb b 13 h.1) refl

with_plain : (b : ℕ) (l : Line) (ls : List Line) → b ≢ 13 → with_byte b (l ∷ ls) ≡ record { bytes = b ∷ l.bytes; end = l.end } ∷ ls
with_plain b l ls h = rw (ne_eqb b 13 h) refl

-- what lines end in one way are what is found
before_bytes : (bs rest end : List ℕ) (ls : List Line) → All Plain bs → lines_of rest ≡ at_end end ∷ ls → lines_of (bs ++ rest) ≡ record { bytes = bs; end = end } ∷ ls
before_bytes [] rest end ls plain is = is
before_bytes (b ∷ bs) rest end ls plain is =
    let first = All-head Plain b bs plain in
    lines_on b (bs ++ rest) (plain_goes_on b (bs ++ rest) first) ∙ ap (with_byte b) (before_bytes bs rest end ls (All-tail Plain b bs plain) is)
    ∙ with_plain b (record { bytes = bs; end = end }) ls first.1

found_end : (end : List ℕ) (ls : List Line) → IsEndBefore end ls → (0 < length ls → lines_of (flat_map whole ls) ≡ ls) → lines_of (end ++ flat_map whole ls) ≡ at_end end ∷ ls
found_end end [] is rest = rw is no_lines
found_end end (l ∷ ls) is rest =
    let rest = rest (omega arith) in
    let text : List ℕ = flat_map whole (l ∷ ls) in
    elim is [
      | inl e ↦ rw e (lines_end 10 text (feed_ends text) ∙ ap (λ x. at_end (10 ∷ []) ∷ x) rest)
      | inr other ↦ elim other [
        | inl e ↦ rw e.0 (lines_end 13 text (return_ends text e.1) ∙ ap (λ x. at_end (13 ∷ []) ∷ x) rest)
        | inr e ↦ rw e (lines_on 13 (10 ∷ text) (return_goes_on (10 ∷ text) refl)
            ∙ ap (with_byte 13) (lines_end 10 text (feed_ends text) ∙ ap (λ x. at_end (10 ∷ []) ∷ x) rest))
      ]
    ]

pub found_lines : (ls : List Line) → 0 < length ls → All PlainLine ls → EndWhole ls → lines_of (flat_map whole ls) ≡ ls
found_lines [] some plain ends = absurd (omega arith)
found_lines (l ∷ ls) some plain ends =
    let rest : 0 < length ls → lines_of (flat_map whole ls) ≡ ls = λ some. found_lines ls some (All-tail PlainLine l ls plain) ends.1 in
    rw append_assoc (before_bytes l.bytes (l.end ++ flat_map whole ls) l.end ls (All-head PlainLine l ls plain) (found_end l.end ls ends.0 rest))

-- what is first in a text, and how the lines begin
pub data First (b : ℕ) (bs : List ℕ) : Type 0 where
  ended : (b ≡ 10) ⊎ ((b ≡ 13) × (slice_index bs 0 ≢ 10)) → ends_line (b ∷ bs) ≡ true → lines_of (b ∷ bs) ≡ at_end (b ∷ []) ∷ lines_of bs → First b bs
  both : b ≡ 13 → ends_line (b ∷ bs) ≡ false → (ls : List Line) → lines_of bs ≡ at_end (10 ∷ []) ∷ ls → lines_of (b ∷ bs) ≡ at_end (13 ∷ 10 ∷ []) ∷ ls → First b bs
  inside : b ≢ 10 → b ≢ 13 → ends_line (b ∷ bs) ≡ false → (l : Line) (ls : List Line) → lines_of bs ≡ l ∷ ls → lines_of (b ∷ bs) ≡ record { bytes = b ∷ l.bytes; end = l.end } ∷ ls → First b bs

begins_lines : (ls : List Line) → 0 < length ls → (l : Line) × (rest : List Line) × (ls ≡ l ∷ rest)
begins_lines [] some = absurd (omega arith)
begins_lines (l ∷ ls) some = (l, ls, refl)

with_some : (b : ℕ) (ls : List Line) → 0 < length ls → 0 < length (with_byte b ls)
with_some b [] some = some
with_some b (l ∷ ls) some = omega arith

pub lines_some : (text : List ℕ) → 0 < length (lines_of text)
lines_some [] = rw no_lines (omega arith)
lines_some (b ∷ bs) =
    let some : 0 < length (lines_of bs) = lines_some bs in
    let ways : (t : Bool) → ends_line (b ∷ bs) ≡ t → 0 < length (lines_of (b ∷ bs))
    = λ t. elim t as (λ t. ends_line (b ∷ bs) ≡ t → 0 < length (lines_of (b ∷ bs))) [
      | true ↦ λ e. rw (lines_end b bs e) (omega arith)
      | false ↦ λ e. rw (lines_on b bs e) (with_some b (lines_of bs) some)
    ] in
    ways (ends_line (b ∷ bs)) refl

both_first : (bs : List ℕ) → slice_index bs 0 ≡ 10 → First 13 bs
both_first [] e = absurd (omega (arith, e))
both_first (c ∷ cs) e =
    let ended : lines_of (c ∷ cs) ≡ at_end (10 ∷ []) ∷ lines_of cs = rw e (lines_end 10 cs (feed_ends cs)) in
    both refl (return_goes_on (c ∷ cs) e) (lines_of cs) ended (lines_on 13 (c ∷ cs) (return_goes_on (c ∷ cs) e) ∙ ap (with_byte 13) ended)

pub first_of_text : (b : ℕ) (bs : List ℕ) → First b bs
first_of_text b bs = elim (eqb_tells b 10) [
  | inl feed ↦ let e : ends_line (b ∷ bs) ≡ true = rw feed.1 (feed_ends bs) in ended (inl feed.1) e (lines_end b bs e)
  | inr no_feed ↦ elim (eqb_tells b 13) [
    | inl return ↦ elim (eqb_tells (slice_index bs 0) 10) [
      | inl next ↦ let P : ℕ → Type 0 = λ b. First b bs in subst P (sym return.1) (both_first bs next.1)
      | inr next ↦ let e : ends_line (b ∷ bs) ≡ true = rw return.1 (return_ends bs next.1) in ended (inr (return.1, next.1)) e (lines_end b bs e)
    ]
    | inr no_return ↦
        let begun = begins_lines (lines_of bs) (lines_some bs) in
        inside no_feed.1 no_return.1 (plain_goes_on b bs (no_feed.1, no_return.1)) begun.0 begun.1 begun.2
        (lines_on b bs (plain_goes_on b bs (no_feed.1, no_return.1)) ∙ ap (with_byte b) begun.2 ∙ with_plain b begun.0 begun.1 no_return.1)
  ]
]

-- a byte before lines
end_before : (b : ℕ) (bs : List ℕ) (ls : List Line) → 0 < length ls → flat_map whole ls ≡ bs → (b ≡ 10) ⊎ ((b ≡ 13) × (slice_index bs 0 ≢ 10)) → IsEndBefore (b ∷ []) ls
end_before b bs [] some all ends = absurd (omega arith)
end_before b bs (l ∷ ls) some all ends = elim ends [
  | inl feed ↦ inl (ap (λ x. x ∷ []) feed)
  | inr return ↦ inr (inl (ap (λ x. x ∷ []) return.0, rw all return.1))
]

with_ended : (b : ℕ) (bs : List ℕ) (ls : List Line) → (b ≡ 10) ⊎ ((b ≡ 13) × (slice_index bs 0 ≢ 10)) → AreLines bs ls → AreLines (b ∷ bs) (at_end (b ∷ []) ∷ ls)
with_ended b bs ls ends are = record {
  some = omega arith;
  all = ap (λ x. b ∷ x) are.all;
  inside = All-cons PlainLine (at_end (b ∷ [])) ls (All-nil Plain) are.inside;
  ends = (end_before b bs ls are.some are.all ends, are.ends);
}

both_before : (ls : List Line) → IsEndBefore (10 ∷ []) ls → IsEndBefore (13 ∷ 10 ∷ []) ls
both_before [] is = absurd (cc)
both_before (l ∷ ls) is = inr (inr refl)

with_both : (bs : List ℕ) (ls : List Line) → AreLines bs (at_end (10 ∷ []) ∷ ls) → AreLines (13 ∷ bs) (at_end (13 ∷ 10 ∷ []) ∷ ls)
with_both bs ls are = record {
  some = omega arith;
  all = ap (λ x. 13 ∷ x) are.all;
  inside = All-cons PlainLine (at_end (13 ∷ 10 ∷ [])) ls (All-nil Plain) (All-tail PlainLine (at_end (10 ∷ [])) ls are.inside);
  ends = (both_before ls are.ends.0, are.ends.1);
}

with_inside : (b : ℕ) (bs : List ℕ) (l : Line) (ls : List Line) → Plain b → AreLines bs (l ∷ ls) → AreLines (b ∷ bs) (record { bytes = b ∷ l.bytes; end = l.end } ∷ ls)
with_inside b bs l ls plain are = record {
  some = omega arith;
  all = ap (λ x. b ∷ x) are.all;
  inside = All-cons PlainLine (record { bytes = b ∷ l.bytes; end = l.end }) ls (All-cons Plain b l.bytes plain (All-head PlainLine l ls are.inside)) (All-tail PlainLine l ls are.inside);
  ends = are.ends;
}

pub are_lines : (text : List ℕ) → AreLines text (lines_of text)
are_lines [] = rw no_lines (record {
  some = omega arith;
  all = refl;
  inside = All-cons PlainLine (at_end []) [] (All-nil Plain) (All-nil PlainLine);
  ends = (refl, tt);
})
are_lines (b ∷ bs) =
    let rest : AreLines bs (lines_of bs) = are_lines bs in
    elim (first_of_text b bs) [
      | ended ends _ is ↦ rw is (with_ended b bs (lines_of bs) ends rest)
      | both e _ ls next is ↦ rw (is, e) (with_both bs ls (rw next at rest))
      | inside no_feed no_return _ l ls next is ↦ rw is (with_inside b bs l ls (no_feed, no_return) (rw next at rest))
    ]

pub divided : (text : List ℕ) (lines : List Line) → AreLines text lines ↔ (lines ≡ lines_of text)
divided text lines = (
  λ are. sym (found_lines lines are.some are.inside are.ends) ∙ ap lines_of are.all,
  λ e. rw e (are_lines text),
)
