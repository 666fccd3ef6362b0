-- Texts that grow.
use Rattle.std.proofs.Common.{◌≡◌, ◌<◌, ℕ, [], ◌∷◌, encode_utf8}
use Rattle.std.proofs.lemmas.Str.{encode_ascii}

-- a character of one byte
pub ascii : (c : ℕ) → c < 128 → encode_utf8 c ≡ c ∷ []
ascii c low = encode_ascii c low
