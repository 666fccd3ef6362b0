-- What is in a text for a byte.
use Rattle.std.proofs.Common.{◌≡◌, ℕ, ◌<◌, ◌≤◌, ◌/◌, ◌%◌, List, [], ◌∷◌, ◌++◌, ◌+◌, length, take, get_or, ap, ◌∙◌, append-nil, arith}
use Rattle.std.proofs.lemmas.Bool.Decides.{nat_tests}
use Rattle.std.proofs.lemmas.Grind.{flat_map-append}
use Rattle.std.proofs.lemmas.List.{take_more}
use Rattle.std.specs.Char.{digit_char}
use Rattle.json.specs.Print.{escape, escape_byte, escape_letter}

pub escape_byte-letter : (x letter : ℕ) → escape_letter x ≡ letter → 0 < letter → escape_byte x ≡ 92 ∷ letter ∷ []
unfolding escape_byte
escape_byte-letter x letter e h = rw e (grind (arith, nat_tests, h))

pub escape_byte-control : (x a b : ℕ) → escape_letter x ≡ 0 → x < 32 → a ≡ digit_char (x / 16) → b ≡ digit_char (x % 16) →
    escape_byte x ≡ 92 ∷ 117 ∷ 48 ∷ 48 ∷ a ∷ b ∷ []
unfolding escape_byte
escape_byte-control x a b e h first second = rw (first, second, e) (grind (arith, nat_tests, h))

pub escape_byte-plain : (x : ℕ) → escape_letter x ≡ 0 → 32 ≤ x → escape_byte x ≡ x ∷ []
unfolding escape_byte
escape_byte-plain x e h = rw e (grind (arith, nat_tests, h))

-- one byte more
pub escape-more : (xs : List ℕ) (i : ℕ) → i < length xs →
    escape (take (i + 1) xs) ≡ escape (take i xs) ++ escape_byte (get_or xs i 0)
escape-more xs i h =
    ap escape (take_more xs i 0 h)
    ∙ flat_map-append escape_byte (take i xs) (get_or xs i 0 ∷ [])
    ∙ ap (λ l. escape (take i xs) ++ l) (append-nil (escape_byte (get_or xs i 0)))
