-- Where the tokens are that are coloured.
use Rattle.std.proofs.Common.{◌≡◌, ◌+◌, ◌-◌, ◌<◌, ◌≤◌, ◌++◌, ℕ, suc, false, Option, Some, None, List, [], ◌∷◌, length, get_or, drop, inl, inr, sym, ap, subst, ◌∙◌, arith, append_assoc}
use Rattle.std.specs.Prelude.{slice_range}
use Rattle.std.proofs.lemmas.Bool.{cases_Bool}
use Rattle.std.proofs.lemmas.Bool.Decides.{leb_tells, eqb_tells}
use Rattle.std.proofs.lemmas.List.{take-append-drop, length-drop, length-take-le, drop_all, drop_more}
use Rattle.tera_outline.specs.declared.semantic_tokens.Context.{Context}
use Rattle.tera_outline.specs.declared.semantic_tokens.SemanticKind.{SemanticKind}
use Rattle.tera_outline.specs.declared.semantic_tokens.SemanticToken.{SemanticToken}
use Rattle.tera_outline.specs.Pieces.{Part, ArePartsOf, AreBetween}
use Rattle.tera_outline.specs.SemanticTokens.{ends_line, token, on_lines, bytes_of, kind_of, kinded, tokens_in, semantic_tokens_of, following, AreOnLines}
use Rattle.tera_outline.proofs.Stopping.{ordered, parts_sound}

-- from an earlier byte on too
earlier : (text : List ℕ) (from other : ℕ) (ts : List SemanticToken) → from ≤ other → AreOnLines other text ts → AreOnLines from text ts
earlier text from other [] h stand = stand
earlier text from other (t ∷ ts) h stand = (omega (arith, h, stand.0), stand.1, stand.2)

-- no line ends between two bytes
abbrev On : List ℕ → ℕ → ℕ → Type 0
On text start end = (k : ℕ) → start ≤ k → k < end → ends_line (get_or text k 0) ≡ false

token_sound : (text : List ℕ) (kind : SemanticKind) (from start end : ℕ) (rest : List SemanticToken) → from ≤ start → start ≤ end → end ≤ length text → On text start end
    → AreOnLines end text rest → AreOnLines from text (token kind start end ++ rest)
token_sound text kind from start end rest h order within on stand = elim (leb_tells (suc start) end) [
  | inl some ↦ rw some.0 (h, record { some = omega (arith, some.1); within = within; line = on }, stand)
  | inr none ↦ rw none.0 (earlier text from end rest (omega (arith, h, order)) stand)
]

one_further : (text : List ℕ) (at b : ℕ) (bs more : List ℕ) → drop at text ≡ b ∷ bs ++ more → (get_or text at 0 ≡ b) × (drop (at + 1) text ≡ bs ++ more) × (at < length text)
one_further text at b bs more e = elim (leb_tells (suc at) (length text)) [
  | inl inside ↦ let split : get_or text at 0 ∷ drop (at + 1) text ≡ b ∷ (bs ++ more) = sym (drop_more text at 0 inside.1) ∙ e in (cc, cc, inside.1)
  | inr beyond ↦ let none : [] ≡ b ∷ (bs ++ more) = sym (drop_all at text (omega (arith, beyond.1))) ∙ e in cc
]

lines_sound : (text : List ℕ) (kind : SemanticKind) (from start at : ℕ) (bs more : List ℕ) (rest : List SemanticToken) → from ≤ start → start ≤ at → On text start at → at ≤ length text
    → drop at text ≡ bs ++ more → AreOnLines (at + length bs) text rest → AreOnLines from text (on_lines kind start at bs ++ rest)
lines_sound text kind from start at [] more rest h order on within e stand = token_sound text kind from start at rest h order within on (subst (λ n. AreOnLines n text rest) (omega arith) stand)
lines_sound text kind from start at (b ∷ bs) more rest h order on within e stand =
    let (here, next, inside) = one_further text at b bs more e in
    let following : AreOnLines ((at + 1) + length bs) text rest = subst (λ n. AreOnLines n text rest) (omega arith) stand in
    elim (cases_Bool (ends_line b)) [
      | inl ends ↦
          rw ends (rw (append_assoc (token kind start at) (on_lines kind (at + 1) (at + 1) bs) rest)
          (token_sound text kind from start at (on_lines kind (at + 1) (at + 1) bs ++ rest) h order within on
          (lines_sound text kind at (at + 1) (at + 1) bs more rest (omega arith) (omega arith) (λ k low high. absurd (omega (arith, low, high))) (omega (arith, inside)) next following)))
      | inr goes ↦
          rw goes (lines_sound text kind from start (at + 1) bs more rest h (omega (arith, order)) (one_more text start at on (ap ends_line here ∙ goes)) (omega (arith, inside)) next following)
    ]
  where
    one_more : (text : List ℕ) (start at : ℕ) → On text start at → ends_line (get_or text at 0) ≡ false → On text start (at + 1)
    one_more text start at on last k low high = elim (eqb_tells k at) [
      | inl same ↦ rw same.1 last
      | inr other ↦ on k low (omega (arith, high, other.1))
    ]

kinded_sound : (text : List ℕ) (from start end : ℕ) (kind : Option SemanticKind) (rest : List SemanticToken) → from ≤ start → start < end → end ≤ length text
    → AreOnLines end text rest → AreOnLines from text (kinded start (slice_range text start end) kind ++ rest)
kinded_sound text from start end None rest h some within stand = earlier text from end rest (omega (arith, h, some)) stand
kinded_sound text from start end (Some kind) rest h some within stand =
    let long : length (slice_range text start end) ≡ end - start = length-take-le (end - start) (drop start text) (rw length-drop (omega (arith, within))) in
    lines_sound text kind from start start (slice_range text start end) (drop (end - start) (drop start text)) rest h (omega arith) (λ k low high. absurd (omega (arith, low, high)))
    (omega (arith, some, within)) (sym (take-append-drop (end - start) (drop start text))) (subst (λ n. AreOnLines n text rest) (omega (arith, long, some)) stand)

all_sound : (text : List ℕ) (c : Context) (from : ℕ) (ps : List Part) → AreBetween from (length text) ps → AreOnLines from text (tokens_in c text ps)
all_sound text c from [] stand = tt
all_sound text c from (p ∷ ps) stand =
    kinded_sound text from p.start p.end (kind_of c.lead p.token (bytes_of text p) ps) (tokens_in (following c p.token ps) text ps) stand.0 stand.1 (ordered p.end (length text) ps stand.2)
    (all_sound text (following c p.token ps) p.end ps stand.2)

pub tokens_sound : (text : List ℕ) (parts : List Part) → ArePartsOf text parts → AreOnLines 0 text (semantic_tokens_of text parts)
tokens_sound text parts are = all_sound text _ 0 parts (parts_sound text parts are)
