-- A number that has a bit for each of some names.
use Rattle.std.specs.Prelude.{◌≡◌, ℕ, ◌+◌, ◌*◌, ◌%◌, List, [], ◌∷◌}
use Rattle.std.specs.Int.{bit_at}
use Rattle.std.specs.List.{All}

-- the bit for a name: its bytes are the digits of a number, modulo 128
abbrev pub bit_after : ℕ → List ℕ → ℕ
bit_after bit [] = bit
bit_after bit (byte ∷ bytes) = bit_after ((bit * 37 + byte) % 128) bytes

abbrev pub bit_of : List ℕ → ℕ
bit_of n = bit_after 0 n

-- the bit for each of the names is set
abbrev pub HasBits : ℕ → List (List ℕ) → Type 0
HasBits bits names = All (λ n. bit_at bits (bit_of n) ≡ 1) names
