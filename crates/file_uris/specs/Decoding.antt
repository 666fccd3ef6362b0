-- The bytes that the text of a URI stands for.
use Rattle.std.specs.Prelude.{◌+◌, ◌-◌, ◌*◌, ◌==◌, ◌||◌, ◌&&◌, nat_le, if◌then◌else◌, ℕ, Bool, false, List, [], ◌∷◌}

-- a digit in base 16, of either case
abbrev pub is_digit : ℕ → Bool
is_digit c = (nat_le 48 c && nat_le c 57) || ((nat_le 65 c && nat_le c 70) || (nat_le 97 c && nat_le c 102))

-- its value
abbrev pub value_of : ℕ → ℕ
value_of c = if nat_le 97 c then c - 87 else (if nat_le 65 c then c - 55 else c - 48)

-- a percent sign and two digits
abbrev pub is_encoded : ℕ → ℕ → ℕ → Bool
is_encoded sign high low = (sign == 37) && (is_digit high && is_digit low)

-- whether two slashes are next
abbrev pub are_slashes : ℕ → ℕ → Bool
are_slashes b c = (b == 47) && (c == 47)

abbrev pub begins_doubled : List ℕ → Bool
begins_doubled [] = false
begins_doubled (b ∷ []) = false
begins_doubled (b ∷ c ∷ cs) = are_slashes b c

-- a path with one slash in the place of several, which are one for the system: each that another comes after is left out
unfoldable pub single_slashed : List ℕ → List ℕ
single_slashed [] = []
single_slashed (b ∷ bs) = if begins_doubled (b ∷ bs) then single_slashed bs else b ∷ single_slashed bs

-- the bytes: one where a percent sign and two digits are, and else each byte itself
unfoldable pub decoded : List ℕ → List ℕ
decoded [] = []
decoded (a ∷ []) = a ∷ []
decoded (a ∷ b ∷ []) = a ∷ b ∷ []
decoded (a ∷ b ∷ c ∷ rest) =
    if is_encoded a b c then (value_of b * 16 + value_of c) ∷ decoded rest else a ∷ decoded (b ∷ c ∷ rest)
