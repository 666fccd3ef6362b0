-- Lanes of bytes that are looked at together.
use Rattle.std.specs.Prelude.{ℕ, ◌==◌, if◌then◌else◌}
use Rattle.std.specs.Int.{w64, trailing_zeros}

-- the place of the lowest bit of a mask that is set, or after its bits where none is
abbrev pub first_set : ℕ → ℕ → ℕ
first_set bits mask = if mask == 0 then bits else trailing_zeros w64 mask
