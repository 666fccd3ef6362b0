-- Where the tokens of a text go on after a fault.
use Rattle.std.proofs.Common.{◌≡◌, ◌+◌, ◌-◌, ◌<◌, ℕ, suc, true, false, Option, Some, None, List, [], ◌∷◌, length, drop, take, get_or, inl, inr, refl, sym, ap, subst, ◌∙◌, arith}
use Rattle.std.specs.Prelude.{option_map}
use Rattle.std.specs.Str.{IsCharBoundary, IsUtf8}
use Rattle.std.proofs.lemmas.Bool.{cases_Bool}
use Rattle.std.proofs.lemmas.List.{drop_more, length-drop, take_rest}
use Rattle.std.proofs.lemmas.Str.{IsCharBoundary-from_rest, IsUtf8-from_ascii}
use Rattle.std.proofs.lemmas.Str.Ascii.{IsAscii-cons}
use Rattle.tera_lexer.specs.code.Markers.{AreStartTexts}
use Rattle.tera_lexer.specs.grammar.Division.{is_at_start}
use Rattle.tera_lexer.specs.grammar.Marks.{AreTexts, default_marks}
use Rattle.tera_lexer.proofs.Markers.{start_cut}
use Rattle.tera_layout.proofs.Defaults.{default_valid}
use Rattle.tera_outline.specs.Pieces.{start_in, start_from, start_after}

two_ascii : (a b : ℕ) → a < 128 → b < 128 → IsUtf8 (a ∷ b ∷ [])
two_ascii a b h k = IsUtf8-from_ascii (a ∷ b ∷ []) (IsAscii-cons a (b ∷ []) h (IsAscii-cons b [] k (λ i. omega arith)))

pub default_texts : AreTexts default_marks
default_texts = record {
  block_start = two_ascii 123 37 (omega arith) (omega arith);
  block_end = two_ascii 37 125 (omega arith) (omega arith);
  variable_start = two_ascii 123 123 (omega arith) (omega arith);
  variable_end = two_ascii 125 125 (omega arith) (omega arith);
  comment_start = two_ascii 123 35 (omega arith) (omega arith);
  comment_end = two_ascii 35 125 (omega arith) (omega arith);
}

start_texts : AreStartTexts default_marks
start_texts = record {
  block_start = default_texts.block_start;
  variable_start = default_texts.variable_start;
  comment_start = default_texts.comment_start;
}

-- a text can be cut where a tag begins
pub cut_at_start : (text : List ℕ) (at : ℕ) → at < length text → is_at_start default_marks (drop at text) ≡ true → IsCharBoundary text at
cut_at_start text at inside starts = start_cut default_marks text at start_texts default_valid inside starts

-- ---- the first start

one_further : (o : Option ℕ) (k : ℕ) → option_map suc o ≡ Some k → (j : ℕ) × (o ≡ Some j) × (k ≡ suc j)
one_further None k e = cc
one_further (Some j) k e = (j, refl, cc)

start_is : (bs : List ℕ) (k : ℕ) → start_in bs ≡ Some k → (k < length bs) × (is_at_start default_marks (drop k bs) ≡ true)
start_is [] k e = cc
start_is (b ∷ bs) k e = elim (cases_Bool (is_at_start default_marks (b ∷ bs))) [
  | inl starts ↦
      let here : Some 0 ≡ Some k = rw starts at e in
      let none : k ≡ 0 = cc in
      rw none (omega arith, starts)
  | inr goes_on ↦
      let more : option_map suc (start_in bs) ≡ Some k = rw goes_on at e in
      let (j, is, next) = one_further (start_in bs) k more in
      let found = start_is bs j is in
      rw next (omega (arith, found.0), found.1)
]

further : (from : ℕ) (o : Option ℕ) (k : ℕ) → option_map (λ n. from + n) o ≡ Some k → (j : ℕ) × (o ≡ Some j) × (k ≡ from + j)
further from None k e = cc
further from (Some j) k e = (j, refl, cc)

pub next_cut : (text : List ℕ) (opened : Option ℕ) (k : ℕ) → start_after text opened ≡ Some k → IsCharBoundary text k
next_cut text None k e = cc
next_cut text (Some from) k e =
    let (j, is, at) = further from (start_in (drop from text)) k e in
    let found = start_is (drop from text) j is in
    let long : length (drop from text) ≡ length text - from = length-drop from text in
    rw at (IsCharBoundary-from_rest text from j (omega (arith, found.0, long)) (cut_at_start (drop from text) j found.0 found.1))

-- ---- the search for it

one_more : (at : ℕ) (o : Option ℕ) → option_map (λ n. at + n) (option_map suc o) ≡ option_map (λ n. (at + 1) + n) o
one_more at None = refl
one_more at (Some n) = ap Some (omega arith)

pub start_passed : (text : List ℕ) (at : ℕ) → at < length text → is_at_start default_marks (take (length text - at) (drop at text)) ≡ false → start_from (at + 1) text ≡ start_from at text
start_passed text at inside passed =
    let b = get_or text at 0 in
    let bs = drop (at + 1) text in
    let split : drop at text ≡ b ∷ bs = drop_more text at 0 inside in
    let none : is_at_start default_marks (b ∷ bs) ≡ false = subst (λ xs. is_at_start default_marks xs ≡ false) (take_rest text at ∙ split) passed in
    let here : start_in (b ∷ bs) ≡ option_map suc (start_in bs) = rw none refl in
    sym (ap (λ xs. option_map (λ n. at + n) (start_in xs)) split ∙ (ap (option_map (λ n. at + n)) here ∙ one_more at (start_in bs)))
