-- The byte of a position, from a place before it on its line.
use Rattle.std.proofs.Common.{◌≡◌, ◌≢◌, ◌∙◌, ◌+◌, ◌-◌, ◌≤◌, ◌==◌, zero, suc, ℕ, true, false, cond, List, [], ◌∷◌, length, get_or, drop, refl, sym, ap, subst, arith}
use Rattle.std.specs.Prelude.{flat_map}
use Rattle.std.proofs.lemmas.Bool.{le-leb, ne_eqb}
use Rattle.text_edits.specs.Lines.{Line, whole, ends_line, lines_of}
use Rattle.text_edits.specs.Positions.{units, byte_in, below, position_of}
use Rattle.text_edits.specs.declared.positions.Encoding.{Encoding}
use Rattle.text_edits.specs.declared.positions.Position.{Position}
use Rattle.text_edits.proofs.Columns.{column, column_on}
use Rattle.text_edits.proofs.Division.{Plain, at_end, ended, both, inside, first_of_text, are_lines}
use Rattle.text_edits.proofs.Inverse.{both_after}
use Rattle.text_edits.proofs.Kept.{later_ends, later_on}
use Rattle.text_edits.proofs.Steps.{shifted, starts_at, ended_moves, both_moves, inside_moves}

-- where the byte comes after a first one, which is half of an end, or in a line
both_from : (e : Encoding) (b : ℕ) (bs : List ℕ) (ls : List Line) (k c : ℕ) (p : Position) → b ≡ 13 → ends_line (b ∷ bs) ≡ false → lines_of bs ≡ at_end (10 ∷ []) ∷ ls → lines_of (b ∷ bs) ≡ at_end (13 ∷ 10 ∷ []) ∷ ls
    → position_of e (lines_of (b ∷ bs)) (suc k) ≡ p → get_or bs k 0 ≢ 10
    → byte_in e (lines_of bs) (position_of e (lines_of bs) k).line c ≡ k + column e (drop k bs) (c - (position_of e (lines_of bs) k).character)
    → byte_in e (lines_of (b ∷ bs)) p.line c ≡ suc k + column e (drop k bs) (c - p.character)
both_from e b bs ls zero c p return ends next lines at out rest =
    let all : flat_map whole (at_end (10 ∷ []) ∷ ls) ≡ bs = ap (flat_map whole) (sym next) ∙ (are_lines bs).all in absurd (out (sym (ap (λ t. get_or t 0 0) all)))
both_from e b bs ls (suc k) c p return ends next lines at out rest =
    let q : Position = position_of e (lines_of bs) (suc k) in
    let following = both_after e ls k (rw next at (are_lines bs).ends).0 in
    let r : Position = following.0 in
    let is : q ≡ below r = ap (λ xs. position_of e xs (suc k)) next ∙ following.1 in
    let same : q ≡ p = sym ((both_moves e b bs ls return ends next lines).later (suc k)) ∙ at in
    let line : q.line ≡ suc r.line = ap (λ (p : Position). p.line) is ∙ omega arith in
    let inner : byte_in e (lines_of bs) (suc r.line) c ≡ suc k + column e (drop (suc k) bs) (c - q.character) = ap (λ n. byte_in e (lines_of bs) n c) (sym line) ∙ rest in
    let here : byte_in e (lines_of (b ∷ bs)) q.line c ≡ suc (suc k) + column e (drop (suc k) bs) (c - q.character)
    = ap (λ n. byte_in e (lines_of (b ∷ bs)) n c) line ∙ later_on e b bs r.line c ends ∙ omega (arith, inner) in
    subst (λ (p : Position). byte_in e (lines_of (b ∷ bs)) p.line c ≡ suc (suc k) + column e (drop (suc k) bs) (c - p.character)) same here

inside_from : (e : Encoding) (b : ℕ) (bs : List ℕ) (k line c : ℕ) (p q : Position) → Plain b → ends_line (b ∷ bs) ≡ false → q.line ≡ line → shifted (units e b) q ≡ p → p.character ≤ c
    → ((c : ℕ) → q.character ≤ c → byte_in e (lines_of bs) q.line c ≡ k + column e (drop k bs) (c - q.character))
    → byte_in e (lines_of (b ∷ bs)) p.line c ≡ suc k + column e (drop k bs) (c - p.character)
inside_from e b bs k zero c p q plain ends first at few rest =
    let line : p.line ≡ 0 = sym (ap (λ (p : Position). p.line) at) ∙ first in
    let character : p.character ≡ units e b + q.character = sym (ap (λ (p : Position). p.character) at) ∙ ap (λ n. cond (n == 0) (units e b + q.character) q.character) first in
    let others : ℕ = c - units e b in
    let fits : units e b ≤ c = omega (arith, character, few) in
    let on : byte_in e (lines_of (b ∷ bs)) 0 c ≡ 1 + byte_in e (lines_of bs) 0 others = column_on e b bs c plain ∙ ap (λ t. cond t (1 + byte_in e (lines_of bs) 0 others) 0) (le-leb (units e b) c fits) in
    let inner : byte_in e (lines_of bs) 0 others ≡ k + column e (drop k bs) (others - q.character) = ap (λ n. byte_in e (lines_of bs) n others) (sym first) ∙ rest others (omega (arith, character, few)) in
    let left : others - q.character ≡ c - p.character = omega (arith, character) in
    ap (λ n. byte_in e (lines_of (b ∷ bs)) n c) line ∙ omega (arith, on, inner, ap (column e (drop k bs)) left)
inside_from e b bs k (suc n) c p q plain ends later at few rest =
    let other : suc n ≢ 0 = omega arith in
    let line : p.line ≡ suc n = sym (ap (λ (p : Position). p.line) at) ∙ later in
    let character : p.character ≡ q.character = sym (ap (λ (p : Position). p.character) at) ∙ ap (λ n. cond (n == 0) (units e b + q.character) q.character) later
    ∙ ap (λ t. cond t (units e b + q.character) q.character) (ne_eqb (suc n) 0 other) in
    let inner : byte_in e (lines_of bs) (suc n) c ≡ k + column e (drop k bs) (c - q.character) = ap (λ n. byte_in e (lines_of bs) n c) (sym later) ∙ rest c (omega (arith, character, few)) in
    ap (λ n. byte_in e (lines_of (b ∷ bs)) n c) line ∙ later_on e b bs n c ends ∙ omega (arith, inner, ap (λ n. column e (drop k bs) (c - n)) character)

ended_from : (e : Encoding) (b : ℕ) (bs : List ℕ) (k c : ℕ) (p q : Position) → ends_line (b ∷ bs) ≡ true → below q ≡ p → byte_in e (lines_of bs) q.line c ≡ k + column e (drop k bs) (c - q.character)
    → byte_in e (lines_of (b ∷ bs)) p.line c ≡ suc k + column e (drop k bs) (c - p.character)
ended_from e b bs k c p q ends at rest =
    let up : q.line + 1 ≡ p.line = ap (λ (p : Position). p.line) at in
    let line : p.line ≡ suc q.line = omega (arith, up) in
    let character : q.character ≡ p.character = ap (λ (p : Position). p.character) at in
    ap (λ n. byte_in e (lines_of (b ∷ bs)) n c) line ∙ later_ends e b bs q.line c ends ∙ omega (arith, rest, ap (λ n. column e (drop k bs) (c - n)) character)

-- a place that is not within an end, and at the character or before it
pub from_place : (e : Encoding) (text : List ℕ) (k : ℕ) (p : Position) (c : ℕ) → k ≤ length text → position_of e (lines_of text) k ≡ p → p.character ≤ c → get_or text k 0 ≢ 10
    → byte_in e (lines_of text) p.line c ≡ k + column e (drop k text) (c - p.character)
from_place e text zero p c within at few out =
    let all : c ≡ c - 0 = omega arith in
    let here : byte_in e (lines_of text) 0 c ≡ 0 + column e text (c - 0) = omega (arith, ap (column e text) all) in
    subst (λ (p : Position). byte_in e (lines_of text) p.line c ≡ 0 + column e text (c - p.character)) (sym (starts_at e text) ∙ at) here
from_place e [] (suc k) p c within at few out = absurd (omega arith)
from_place e (b ∷ bs) (suc k) p c within at few out =
    let q : Position = position_of e (lines_of bs) k in
    let rest : (c : ℕ) → q.character ≤ c → byte_in e (lines_of bs) q.line c ≡ k + column e (drop k bs) (c - q.character) = λ c few. from_place e bs k q c (omega arith) refl few out in
    elim (first_of_text b bs) [
      | ended _ ends lines ↦
          let moved : below q ≡ p = sym ((ended_moves e b bs ends lines).later k) ∙ at in
          let same : q.character ≡ p.character = ap (λ (p : Position). p.character) moved in
          ended_from e b bs k c p q ends moved (rest c (omega (arith, same, few)))
      | both return ends ls next lines ↦
          let moved : q ≡ p = sym ((both_moves e b bs ls return ends next lines).later k) ∙ at in
          let same : q.character ≡ p.character = ap (λ (p : Position). p.character) moved in
          both_from e b bs ls k c p return ends next lines at out (rest c (omega (arith, same, few)))
      | inside no_feed no_return ends l ls next lines ↦
          let moved : shifted (units e b) q ≡ p = sym ((inside_moves e b bs l ls no_return ends next lines).later k) ∙ at in
          inside_from e b bs k q.line c p q (no_feed, no_return) ends refl moved few rest
    ]
