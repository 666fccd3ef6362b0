-- The order of positions, and the longest front of a line.
use Rattle.std.proofs.Common.{◌≡◌, ◌↔◌, ◌+◌, ◌-◌, ◌<◌, ◌≤◌, ◌⊎◌, inl, inr, zero, suc, ℕ, List, [], ◌∷◌, length, take, refl, ap, arith, length-append}
use Rattle.std.specs.Prelude.{sum_by}
use Rattle.std.proofs.lemmas.Bool.Decides.{leb_tells}
use Rattle.std.proofs.lemmas.List.Sums.{sum_by-cons}
use Rattle.text_edits.specs.Lines.{Line, whole}
use Rattle.text_edits.specs.Positions.{units, front_within, byte_in, below, position_of}
use Rattle.text_edits.specs.Laws.{IsUpTo}
use Rattle.text_edits.specs.declared.positions.Encoding.{Encoding}
use Rattle.text_edits.specs.declared.positions.Position.{Position}
use Rattle.text_edits.proofs.Steps.{within_line, after_line}
use Rattle.text_edits.proofs.Inverse.{fits, full}

-- a front is within the longest just where it adds no more units
pub longest_is : (e : Encoding) (room : ℕ) (bs : List ℕ) (k : ℕ) → k ≤ length bs → (k ≤ front_within e room bs) ↔ (sum_by (units e) (take k bs) ≤ room)
longest_is e room bs zero h = (λ _. omega arith, λ _. omega arith)
longest_is e room [] (suc k) h = absurd (omega arith)
longest_is e room (b ∷ bs) (suc k) h =
    let sum = sum_by-cons (units e) b (take k bs) in
    elim (leb_tells (units e b) room) [
      | inl on ↦
          let rest = longest_is e (room - units e b) bs k (omega arith) in
          let is = fits e room b bs on.1 in
          (λ within. let inner = rest.0 (omega (arith, is, within)) in omega (arith, inner, sum, on.1), λ few. let inner = rest.1 (omega (arith, few, sum, on.1)) in omega (arith, inner, is))
      | inr off ↦
          let is = full e room b bs off.1 in
          (λ within. absurd (omega (arith, is, within)), λ few. absurd (omega (arith, few, sum, off.1)))
    ]

pub front_bound : (e : Encoding) (room : ℕ) (bs : List ℕ) → front_within e room bs ≤ length bs
front_bound e room [] = omega arith
front_bound e room (b ∷ bs) = elim (leb_tells (units e b) room) [
  | inl on ↦ omega (arith, fits e room b bs on.1, front_bound e (room - units e b) bs)
  | inr off ↦ omega (arith, full e room b bs off.1)
]

-- positions in order have bytes in order
front_order : (e : Encoding) (room more : ℕ) (bs : List ℕ) → room ≤ more → front_within e room bs ≤ front_within e more bs
front_order e room more bs h =
    let k : ℕ = front_within e room bs in
    let few = (longest_is e room bs k (front_bound e room bs)).0 (omega arith) in (longest_is e more bs k (front_bound e room bs)).1 (omega (arith, few))

pub bytes_order : (e : Encoding) (ls : List Line) (line c other d : ℕ) → (line < other) ⊎ ((line ≡ other) × (c ≤ d)) → byte_in e ls line c ≤ byte_in e ls other d
bytes_order e [] line c other d h = omega arith
bytes_order e (l ∷ ls) zero c zero d h = front_order e c d l.bytes (elim h [ inl h ↦ absurd (omega (arith, h)) | inr h ↦ h.1 ])
bytes_order e (l ∷ ls) zero c (suc other) d h = omega (arith, front_bound e c l.bytes, length-append l.bytes l.end)
bytes_order e (l ∷ ls) (suc line) c zero d h = elim h [ inl h ↦ absurd (omega (arith, h)) | inr h ↦ absurd (omega (arith, h.0)) ]
bytes_order e (l ∷ ls) (suc line) c (suc other) d h =
    let rest : (line < other) ⊎ ((line ≡ other) × (c ≤ d)) = elim h [ inl h ↦ inl (omega (arith, h)) | inr h ↦ inr (omega (arith, h.0), h.1) ] in
    omega (arith, bytes_order e ls line c other d rest)

-- and bytes in order have positions in order
take_order : (f : ℕ → ℕ) (bs : List ℕ) (k n : ℕ) → k ≤ n → sum_by f (take k bs) ≤ sum_by f (take n bs)
take_order f bs zero n h = omega arith
take_order f bs (suc k) zero h = absurd (omega arith)
take_order f [] (suc k) (suc n) h = omega arith
take_order f (b ∷ bs) (suc k) (suc n) h = omega (arith, sum_by-cons f b (take k bs), sum_by-cons f b (take n bs), take_order f bs k n (omega arith))

below_order : (p q : Position) → IsUpTo p q → IsUpTo (below p) (below q)
below_order p q h = elim h [ inl h ↦ inl (omega (arith, h)) | inr h ↦ inr (ap (λ n. n + 1) h.0, h.1) ]

pub positions_order : (e : Encoding) (ls : List Line) (k n : ℕ) → k ≤ n → IsUpTo (position_of e ls k) (position_of e ls n)
positions_order e [] k n h = inr (refl, omega arith)
positions_order e (l ∷ []) k n h = rw (within_line e l [] k (inr refl), within_line e l [] n (inr refl)) (inr (refl, take_order (units e) l.bytes k n h))
positions_order e (l ∷ m ∷ ls) k n h = elim (leb_tells (length (whole l)) k) [
  | inl following ↦
      let further : length (whole l) ≤ n = omega (arith, following.1) in
      rw (after_line e l (m ∷ ls) k following.1 (omega arith), after_line e l (m ∷ ls) n further (omega arith))
      (below_order (position_of e (m ∷ ls) (k - length (whole l))) (position_of e (m ∷ ls) (n - length (whole l))) (positions_order e (m ∷ ls) (k - length (whole l)) (n - length (whole l)) (omega arith)))
  | inr within ↦ elim (leb_tells (length (whole l)) n) [
    | inl following ↦ rw (within_line e l (m ∷ ls) k (inl within.1), after_line e l (m ∷ ls) n following.1 (omega arith)) (inl (omega arith))
    | inr on ↦ rw (within_line e l (m ∷ ls) k (inl within.1), within_line e l (m ∷ ls) n (inl on.1)) (inr (refl, take_order (units e) l.bytes k n h))
  ]
]
