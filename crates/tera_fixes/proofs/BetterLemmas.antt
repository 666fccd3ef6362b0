-- The messages of findings, one by one.
use Rattle.std.proofs.Common.{◌≡◌, ◌∙◌, ◌+◌, ◌<◌, ℕ, Bool, true, false, List, [], ◌∷◌, ◌++◌, cond, bytes_eq, get_or, length, string_bytes, take, refl, sym, ap}
use Rattle.std.specs.Prelude.{◌||◌}
use Rattle.std.specs.List.{list_any}
use Rattle.std.proofs.lemmas.List.{take_more}
use Rattle.tera_findings.specs.declared.finding.Finding.{Finding}
use Rattle.tera_fixes.specs.Better.{has_message}

only : (b : Bool) → (b || false) ≡ cond b true false
only true = refl
only false = refl

-- one more finding, whose message is added
message_more : (findings : List Finding) (f : Finding) (text : List ℕ) → has_message (findings ++ f ∷ []) text ≡ cond (bytes_eq (string_bytes f.message) text) true (has_message findings text)
message_more [] f text = only (bytes_eq (string_bytes f.message) text)
message_more (g ∷ gs) f text =
    let first = bytes_eq (string_bytes g.message) text in
    ap (λ b. first || b) (message_more gs f text) ∙ later first (bytes_eq (string_bytes f.message) text) (has_message gs text)
  where
    later : (a b c : Bool) → (a || cond b true c) ≡ cond b true (a || c)
    later true true c = refl
    later true false c = refl
    later false true c = refl
    later false false c = refl

-- the next finding, whose message is added to those before it
pub message_next : (findings : List Finding) (i : ℕ) (f : Finding) (key text : List ℕ) (old new : Bool) → i < length findings → f ≡ get_or findings i f
    → key ≡ string_bytes f.message → new ≡ cond (bytes_eq key text) true old → old ≡ has_message (take i findings) text → new ≡ has_message (take (i + 1) findings) text
message_next findings i f key text old new below at is step held =
    let more : take (i + 1) findings ≡ take i findings ++ f ∷ [] = take_more findings i f below ∙ ap (λ g. take i findings ++ g ∷ []) (sym at) in
    step ∙ ap (λ k. cond (bytes_eq k text) true old) is ∙ ap (λ b. cond (bytes_eq (string_bytes f.message) text) true b) held
    ∙ sym (ap (λ fs. has_message fs text) more ∙ message_more (take i findings) f text)
