-- A line that lacks its line feed.
use Rattle.std.proofs.Common.{◌≡◌, ◌-◌, ℕ, ◌<◌, suc, inl, inr, false, List, [], ◌∷◌, ◌++◌, length, get_or, take, refl, sym, ap, ◌∙◌, arith}
use Rattle.std.proofs.Math.Seq.{take-suc, take-length}
use Rattle.std.proofs.lemmas.Bool.Decides.{eqb_tells}
use Rattle.terminal_text.specs.Differences.{has_end}

last_byte : (line : List ℕ) → 0 < length line → line ≡ take (length line - 1) line ++ get_or line (length line - 1) 0 ∷ []
last_byte line some =
    let n : suc (length line - 1) ≡ length line = omega arith in
    sym (take-length line) ∙ ap (λ k. take k line) (sym n) ∙ take-suc line (length line - 1) 0 (omega arith)

pub no_end : (line : List ℕ) → ((front : List ℕ) → line ≡ front ++ 10 ∷ [] → ⊥) → has_end line ≡ false
no_end [] none = refl
no_end (b ∷ bs) none =
    let line = b ∷ bs in
    elim (eqb_tells (get_or line (length line - 1) 0) 10) [
      | inl w ↦ absurd (none (take (length line - 1) line) (last_byte line (omega arith) ∙ ap (λ x. take (length line - 1) line ++ x ∷ []) w.1))
      | inr w ↦ w.0
    ]
