-- A line before and after its first colon.
use Rattle.std.proofs.Common.{◌≡◌, ℕ, zero, suc, ◌<◌, true, false, List, [], ◌∷◌, length, get_or, take, drop, Some, None, refl, arith}
use Rattle.memchr.specs.Find.{IsFirstByte, is_byte}
use Rattle.message_frames.specs.Header.{is_colon}
use Rattle.message_frames.specs.Reading.{cut}

pub cut_none : (line : List ℕ) → ((k : ℕ) → k < length line → is_colon (get_or line k 0) ≡ true → ⊥) → cut line ≡ None
cut_none [] h = refl
cut_none (b ∷ line) h =
    let here : is_colon b ≡ false =
    elim (is_colon b) as (λ t. is_colon b ≡ t → t ≡ false) [ true ↦ λ e. absurd (h 0 (omega arith) e) | false ↦ λ e. refl ] refl in
    rw (here, cut_none line (λ k lt e. h (suc k) (omega arith) e)) refl

pub cut_at : (k : ℕ) (line : List ℕ) → k < length line → is_colon (get_or line k 0) ≡ true
    → ((j : ℕ) → j < k → is_colon (get_or line j 0) ≡ true → ⊥) → cut line ≡ Some (take k line, drop (suc k) line)
cut_at k [] lt is h = absurd (omega arith)
cut_at zero (b ∷ line) lt is h = rw is refl
cut_at (suc k) (b ∷ line) lt is h =
    let here : is_colon b ≡ false =
    elim (is_colon b) as (λ t. is_colon b ≡ t → t ≡ false) [ true ↦ λ e. absurd (h 0 (omega arith) e) | false ↦ λ e. refl ] refl in
    rw (here, cut_at k line (omega arith) is (λ j below e. h (suc j) (omega arith) e)) refl

pub found_place : (line : List ℕ) (k : ℕ) → IsFirstByte (is_byte 58) line (Some k)
    → (cut line ≡ Some (take k line, drop (suc k) line)) × (k < length line)
found_place line k first =
    (cut_at k line first.0.high first.1 (λ j below e. first.0.before j (omega arith) below e), first.0.high)

pub found_none : (line : List ℕ) → IsFirstByte (is_byte 58) line None → cut line ≡ None
found_none line none = cut_none line (λ k lt e. none k (omega arith) lt e)
