-- The bytes of a path as they are in a URI.
use Rattle.std.specs.Prelude.{◌+◌, ◌/◌, ◌%◌, ◌==◌, ◌||◌, ◌&&◌, ◌++◌, nat_le, nat_lt, if◌then◌else◌, ℕ, Bool, List, [], ◌∷◌, codes}
use Rattle.std.specs.List.{flat_map}
use Rattle.file_uris.specs.Decoding.{single_slashed}

-- what stands for itself in a path: letters, digits, `-`, `.`, `/`, `_` and `~`
abbrev pub sound : ℕ → Bool
sound b =
    (nat_le 45 b && nat_le b 57) || ((nat_le 65 b && nat_le b 90)
    || (b == 95 || ((nat_le 97 b && nat_le b 122) || b == 126)))

-- a digit in base 16
abbrev pub hex_digit : ℕ → ℕ
hex_digit n = if nat_lt n 10 then 48 + n else 55 + n

-- a byte by its two digits
abbrev pub encoded : ℕ → List ℕ
encoded b = codes "%" ++ ((hex_digit (b / 16) ∷ []) ++ (hex_digit (b % 16) ∷ []))

abbrev pub encoded_byte : ℕ → List ℕ
encoded_byte b = if sound b then b ∷ [] else encoded b

abbrev pub encoded_path : List ℕ → List ℕ
encoded_path path = flat_map encoded_byte path

-- a path as a reference: after two slashes at its start a reader would look for a host
abbrev pub reference : List ℕ → List ℕ
reference path = encoded_path (single_slashed path)
