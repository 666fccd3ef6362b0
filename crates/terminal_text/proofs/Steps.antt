-- A loop over the characters of a text that counts columns for each of them.
use Rattle.std.proofs.Common.{◌≡◌, ℕ, zero, suc, ◌+◌, List, [], ◌∷◌, ◌++◌, length, replicate, chars, encode_utf8, IsUtf8, refl, sym, ap, ◌∙◌, add_assoc, add-zero}
use Rattle.std.specs.List.{flat_map}
use Rattle.std.proofs.lemmas.List.{nil_from_length}
use Rattle.std.proofs.lemmas.List.Sums.{sum_by-append}
use Rattle.std.proofs.lemmas.Str.{chars-nil, chars_past_char}
use Rattle.terminal_text.specs.Shown.{columns}

-- how many columns were written, and how many are to be written for the characters that are left
abbrev pub columns_and : (ℕ → List ℕ) → ℕ → List ℕ → ℕ
columns_and f now left = now + columns (flat_map f (chars left))

pub columns_step : (f : ℕ → List ℕ) (now added : ℕ) (left rest : List ℕ) (c : ℕ) → IsUtf8 left → left ≡ encode_utf8 c ++ rest →
    added ≡ columns (f c) → columns_and f (now + added) rest ≡ columns_and f now left
columns_step f now added left rest c utf8 parts counted =
    let more = flat_map f (chars rest) in
    ap (λ n. now + n + columns more) counted ∙ add_assoc now (columns (f c)) (columns more)
    ∙ ap (λ n. now + n) (sym (sum_by-append _ (f c) more) ∙ ap (λ cs. columns (flat_map f cs)) (sym (chars_past_char left rest c utf8 parts)))

pub columns_end : (f : ℕ → List ℕ) (now : ℕ) (left : List ℕ) → length left ≡ 0 → columns_and f now left ≡ now
columns_end f now left none =
    ap (λ l. now + columns (flat_map f (chars l))) (nil_from_length left none)
    ∙ ap (λ cs. now + columns (flat_map f cs)) chars-nil ∙ add-zero now

-- a character once more
pub repeated_more : (n c : ℕ) → replicate n c ++ c ∷ [] ≡ replicate (suc n) c
repeated_more zero c = refl
repeated_more (suc n) c = ap (λ l. c ∷ l) (repeated_more n c)
