-- Positions and bytes, there and back.
use Rattle.std.proofs.Common.{◌≡◌, ◌≢◌, ◌∙◌, ◌+◌, ◌-◌, ◌<◌, ◌≤◌, ◌==◌, zero, suc, ℕ, false, cond, List, [], ◌∷◌, length, take, refl, sym, ap, arith, add-one}
use Rattle.std.specs.Prelude.{flat_map, sum_by, slice_index, IsCharBoundary}
use Rattle.std.proofs.lemmas.Bool.{le-leb, lt-leb, ne_eqb}
use Rattle.std.proofs.lemmas.List.Sums.{sum_by-cons}
use Rattle.text_edits.specs.Lines.{Line, whole, IsEndBefore, EndWhole, ends_line, lines_of}
use Rattle.text_edits.specs.Positions.{units, front_within, byte_in, byte_of, below, position_of}
use Rattle.text_edits.specs.Laws.{IsWithinEnd, HasColumn}
use Rattle.text_edits.specs.declared.positions.Encoding.{Encoding}
use Rattle.text_edits.specs.declared.positions.Position.{Position}
use Rattle.text_edits.proofs.Division.{at_end, ended, both, inside, first_of_text, no_lines, are_lines}
use Rattle.text_edits.proofs.Widths.{lead_adds}
use Rattle.text_edits.proofs.Steps.{begun, shifted, starts_at, within_line, after_line, on_line, ended_moves, both_moves, inside_moves}

-- the longest front with no more units
pub fits : (e : Encoding) (room b : ℕ) (bs : List ℕ) → units e b ≤ room → front_within e room (b ∷ bs) ≡ 1 + front_within e (room - units e b) bs
fits e room b bs h = rw (le-leb (units e b) room h) refl

pub full : (e : Encoding) (room b : ℕ) (bs : List ℕ) → room < units e b → front_within e room (b ∷ bs) ≡ 0
full e room b bs h = rw (lt-leb (units e b) room h) refl

-- a front of characters is found by its units
pub front_found : (e : Encoding) (bs : List ℕ) (k : ℕ) → IsCharBoundary bs k → front_within e (sum_by (units e) (take k bs)) bs ≡ k
front_found e [] zero is = refl
front_found e [] (suc k) is = absurd (omega arith)
front_found e (b ∷ bs) zero is = full e 0 b bs (lead_adds e b (is.1 (omega arith)))
front_found e (b ∷ bs) (suc k) is =
    let sum = sum_by-cons (units e) b (take k bs) in
    let rest : sum_by (units e) (take (suc k) (b ∷ bs)) - units e b ≡ sum_by (units e) (take k bs) = omega (arith, sum) in
    let inner : IsCharBoundary bs k = (omega (arith, is.0), λ h. is.1 (omega (arith, h))) in
    fits e (sum_by (units e) (take (suc k) (b ∷ bs))) b bs (omega (arith, sum)) ∙ ap (λ room. 1 + front_within e room bs) rest ∙ ap (λ n. 1 + n) (front_found e bs k inner) ∙ omega arith

-- the byte of a position, where a byte is put before the text
ended_byte : (e : Encoding) (b : ℕ) (ls : List Line) (p : Position) → byte_of e (at_end (b ∷ []) ∷ ls) (below p) ≡ suc (byte_of e ls p)
ended_byte e b ls p = rw (add-one p.line) (omega arith)

both_byte : (e : Encoding) (ls : List Line) (p : Position) → byte_of e (at_end (13 ∷ 10 ∷ []) ∷ ls) (below p) ≡ suc (byte_of e (at_end (10 ∷ []) ∷ ls) (below p))
both_byte e ls p = rw (add-one p.line) (omega arith)

inside_column : (e : Encoding) (b : ℕ) (l : Line) (ls : List Line) (line c : ℕ)
    → byte_in e (record { bytes = b ∷ l.bytes; end = l.end } ∷ ls) line (cond (line == 0) (units e b + c) c) ≡ suc (byte_in e (l ∷ ls) line c)
inside_column e b l ls zero c =
    let rest : units e b + c - units e b ≡ c = omega arith in
    fits e (units e b + c) b l.bytes (omega arith) ∙ ap (λ room. 1 + front_within e room l.bytes) rest ∙ omega arith
inside_column e b l ls (suc line) c = let other : suc line ≢ 0 = omega arith in rw (ne_eqb (suc line) 0 other) (omega arith)

-- after a line's first byte
pub both_after : (e : Encoding) (ls : List Line) (k : ℕ) → IsEndBefore (10 ∷ []) ls → (p : Position) × (position_of e (at_end (10 ∷ []) ∷ ls) (suc k) ≡ below p)
both_after e [] k is = absurd (cc)
both_after e (l ∷ ls) k is = (position_of e (l ∷ ls) (suc k - 1), after_line e (at_end (10 ∷ [])) (l ∷ ls) (suc k) (omega arith) (omega arith))

first_byte : (e : Encoding) (text : List ℕ) → IsCharBoundary text 0 → byte_of e (lines_of text) begun ≡ 0
first_byte e [] is = rw no_lines refl
first_byte e (b ∷ bs) is = elim (first_of_text b bs) [
  | ended _ _ lines ↦ rw lines refl
  | both _ _ ls _ lines ↦ rw lines refl
  | inside _ _ _ l ls _ lines ↦ rw lines (full e 0 b l.bytes (lead_adds e b (is.1 (omega arith))))
]

not_within : (b : ℕ) (bs : List ℕ) (k : ℕ) → (IsWithinEnd (b ∷ bs) (suc k) → ⊥) → IsWithinEnd bs k → ⊥
not_within b bs zero out is = omega (arith, is.0, is.1)
not_within b bs (suc k) out is =
    let one : suc (suc k) - 1 ≡ suc k = omega arith in
    let two : k ≡ suc k - 1 = omega arith in
    out (ap (slice_index (b ∷ bs)) one ∙ ap (slice_index bs) two ∙ is.0, is.1)

both_inverse : (e : Encoding) (b : ℕ) (bs : List ℕ) (ls : List Line) (k : ℕ) → b ≡ 13 → ends_line (b ∷ bs) ≡ false → lines_of bs ≡ at_end (10 ∷ []) ∷ ls → lines_of (b ∷ bs) ≡ at_end (13 ∷ 10 ∷ []) ∷ ls
    → (IsWithinEnd (b ∷ bs) (suc k) → ⊥) → byte_of e (lines_of bs) (position_of e (lines_of bs) k) ≡ k → byte_of e (lines_of (b ∷ bs)) (position_of e (lines_of (b ∷ bs)) (suc k)) ≡ suc k
both_inverse e b bs ls zero return ends next lines out rest =
    let all : flat_map whole (at_end (10 ∷ []) ∷ ls) ≡ bs = ap (flat_map whole) (sym next) ∙ (are_lines bs).all in absurd (out (return, sym (ap (λ t. slice_index t 0) all)))
both_inverse e b bs ls (suc k) return ends next lines out rest =
    let following = both_after e ls k (rw next at (are_lines bs).ends).0 in
    let at : position_of e (lines_of bs) (suc k) ≡ below following.0 = ap (λ xs. position_of e xs (suc k)) next ∙ following.1 in
    let back : byte_of e (at_end (10 ∷ []) ∷ ls) (below following.0) ≡ suc k
    = ap (λ xs. byte_of e xs (below following.0)) (sym next) ∙ ap (byte_of e (lines_of bs)) (sym at) ∙ rest in
    ap (byte_of e (lines_of (b ∷ bs))) ((both_moves e b bs ls return ends next lines).later (suc k) ∙ at) ∙ ap (λ xs. byte_of e xs (below following.0)) lines ∙ both_byte e ls following.0 ∙ ap suc back

pub inverse_is : (e : Encoding) (text : List ℕ) (k : ℕ) → IsCharBoundary text k → (IsWithinEnd text k → ⊥) → byte_of e (lines_of text) (position_of e (lines_of text) k) ≡ k
inverse_is e text zero is out = ap (byte_of e (lines_of text)) (starts_at e text) ∙ first_byte e text is
inverse_is e [] (suc k) is out = absurd (omega (arith, is.0))
inverse_is e (b ∷ bs) (suc k) is out =
    let rest = inverse_is e bs k (omega (arith, is.0), λ h. is.1 (omega (arith, h))) (not_within b bs k out) in
    let p : Position = position_of e (lines_of bs) k in
    elim (first_of_text b bs) [
      | ended _ ends lines ↦
          ap (byte_of e (lines_of (b ∷ bs))) ((ended_moves e b bs ends lines).later k) ∙ ap (λ xs. byte_of e xs (below p)) lines ∙ ended_byte e b (lines_of bs) p ∙ ap suc rest
      | both return ends ls next lines ↦ both_inverse e b bs ls k return ends next lines out rest
      | inside _ plain ends l ls next lines ↦
          ap (byte_of e (lines_of (b ∷ bs))) ((inside_moves e b bs l ls plain ends next lines).later k) ∙ ap (λ xs. byte_of e xs (shifted (units e b) p)) lines
          ∙ inside_column e b l ls p.line p.character ∙ ap suc (ap (λ xs. byte_of e xs p) (sym next) ∙ rest)
    ]

-- and from positions
has_line : (e : Encoding) (ls : List Line) (line c : ℕ) → HasColumn e ls line c → 0 < length ls
has_line e [] line c has = absurd has
has_line e (l ∷ ls) line c has = omega arith

pub exact_is : (e : Encoding) (ls : List Line) (line c : ℕ) → EndWhole ls → HasColumn e ls line c → position_of e ls (byte_in e ls line c) ≡ record { line = line; character = c }
exact_is e [] line c ends has = absurd has
exact_is e (l ∷ ls) zero c ends has =
    let (k, is, at) = has in
    ap (λ room. position_of e (l ∷ ls) (front_within e room l.bytes)) at ∙ ap (position_of e (l ∷ ls)) (front_found e l.bytes k is)
    ∙ within_line e l ls k (on_line l ls k ends.0 is.0) ∙ ap (λ n. record { line = 0; character = n }) (sym at)
exact_is e (l ∷ ls) (suc line) c ends has =
    let at : ℕ = length (whole l) + byte_in e ls line c in
    let rest : at - length (whole l) ≡ byte_in e ls line c = omega arith in
    after_line e l ls at (omega arith) (has_line e ls line c has) ∙ ap (λ k. below (position_of e ls k)) rest ∙ ap below (exact_is e ls line c ends.1 has) ∙ rw add-one refl
