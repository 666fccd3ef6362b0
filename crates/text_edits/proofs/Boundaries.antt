-- Where characters begin.
use Rattle.std.proofs.Common.{◌≡◌, ◌≢◌, ◌<◌, ◌≤◌, ◌⊎◌, inl, inr, ◌||◌, ◌&&◌, ◌==◌, zero, suc, ℕ, true, false, List, length, get_or, refl, arith}
use Rattle.std.specs.Prelude.{nat_lt, nat_le, IsCharBoundary}
use Rattle.std.proofs.lemmas.Bool.Decides.{leb_tells, eqb_tells}
use Rattle.text_edits.specs.Positions.{is_boundary, boundary_to}

-- of a byte that is the k-th of n
test_reports : (k n x : ℕ)
    → ((((k == n) || (nat_lt k n && (nat_lt x 128 || nat_le 192 x))) ≡ true) × ((k ≤ n) × (k < n → 128 ≤ x → 192 ≤ x)))
    ⊎ ((((k == n) || (nat_lt k n && (nat_lt x 128 || nat_le 192 x))) ≡ false) × ((k ≤ n) × (k < n → 128 ≤ x → 192 ≤ x) → ⊥))
test_reports k n x = elim (eqb_tells k n) [
  | inl same ↦ inl (rw same.0 refl, (omega (arith, same.1), λ h _. absurd (omega (arith, same.1, h))))
  | inr other ↦ elim (leb_tells (suc k) n) [
    | inr beyond ↦ inr (rw (other.0, beyond.0) refl, λ is. other.1 (omega (arith, is.0, beyond.1)))
    | inl within ↦ elim (leb_tells (suc x) 128) [
      | inl low ↦ inl (rw (other.0, within.0, low.0) refl, (omega (arith, within.1), λ _ h. absurd (omega (arith, low.1, h))))
      | inr high ↦ elim (leb_tells 192 x) [
        | inl lead ↦ inl (rw (other.0, within.0, high.0, lead.0) refl, (omega (arith, within.1), λ _ _. lead.1))
        | inr middle ↦ inr (rw (other.0, within.0, high.0, middle.0) refl, λ is. let lead = is.1 within.1 (omega (arith, high.1)) in omega (arith, lead, middle.1))
      ]
    ]
  ]
]

pub boundary_reports : (text : List ℕ) (k : ℕ) → ((is_boundary text k ≡ true) × IsCharBoundary text k) ⊎ ((is_boundary text k ≡ false) × (IsCharBoundary text k → ⊥))
boundary_reports text k = test_reports k (length text) (get_or text k 0)

-- the last boundary up to a byte is found
pub last_is : (text : List ℕ) (byte at : ℕ) → at ≤ byte → IsCharBoundary text at → ((k : ℕ) → at < k → k ≤ byte → IsCharBoundary text k → ⊥) → at ≡ boundary_to text byte
last_is text zero at within is nearest = omega arith
last_is text (suc byte) at within is nearest = elim (boundary_reports text (suc byte)) [
  | inl here ↦
      let same : at ≡ suc byte = elim (leb_tells (suc byte) at) [ inl h ↦ omega (arith, h.1) | inr h ↦ absurd (nearest (suc byte) h.1 (omega arith) here.1) ] in
      rw here.0 same
  | inr not_here ↦
      let other : at ≢ suc byte = λ e. not_here.1 (rw e at is) in
      rw not_here.0 (last_is text byte at (omega arith) is (λ k above below. nearest k above (omega arith)))
]

pub last_within : (text : List ℕ) (byte : ℕ) → boundary_to text byte ≤ byte
last_within text zero = omega arith
last_within text (suc byte) = elim (boundary_reports text (suc byte)) [
  | inl here ↦ rw here.0 (omega arith)
  | inr not_here ↦ rw not_here.0 (omega (arith, last_within text byte))
]

pub last_boundary : (text : List ℕ) (byte : ℕ) → IsCharBoundary text 0 → IsCharBoundary text (boundary_to text byte)
last_boundary text zero first = first
last_boundary text (suc byte) first = elim (boundary_reports text (suc byte)) [
  | inl here ↦ rw here.0 here.1
  | inr not_here ↦ rw not_here.0 (last_boundary text byte first)
]

pub last_nearest : (text : List ℕ) (byte k : ℕ) → boundary_to text byte < k → k ≤ byte → IsCharBoundary text k → ⊥
last_nearest text zero k above within is = omega (arith, above, within)
last_nearest text (suc byte) k above within is = elim (boundary_reports text (suc byte)) [
  | inl here ↦ let last : boundary_to text (suc byte) ≡ suc byte = rw here.0 refl in omega (arith, last, above, within)
  | inr not_here ↦
      let last : boundary_to text (suc byte) ≡ boundary_to text byte = rw not_here.0 refl in
      let other : k ≢ suc byte = λ e. not_here.1 (rw e at is) in
      last_nearest text byte k (omega (arith, last, above)) (omega (arith, within, other)) is
]
