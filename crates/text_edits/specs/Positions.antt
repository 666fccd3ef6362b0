-- Positions in a text: a line, and in it so many units of an encoding.
use Rattle.std.specs.Prelude.{◌+◌, ◌-◌, ◌||◌, ◌&&◌, ◌==◌, if◌then◌else◌, nat_lt, nat_le, zero, suc, ℕ, Bool, List, [], ◌∷◌, length, take, sum_by, slice_index}
use Rattle.text_edits.specs.Lines.{Line, whole}
use Rattle.text_edits.specs.declared.positions.Encoding.{Encoding}
use Rattle.text_edits.specs.declared.positions.Encoding.TheVariants.{Utf8, Utf16, Utf32}
use Rattle.text_edits.specs.declared.positions.Position.{Position}

-- whether the byte begins a character in UTF-8
abbrev pub begins_character : ℕ → Bool
begins_character b = nat_lt b 0x80 || nat_le 0xC0 b

-- what a byte adds: the first of a character all units of the character, the others none
abbrev pub units : Encoding → ℕ → ℕ
units Utf8 b = if nat_lt b 0x80 then 1 else (if nat_lt b 0xC0 then 0 else (if nat_lt b 0xE0 then 2 else (if nat_lt b 0xF0 then 3 else 4)))
units Utf16 b = if nat_lt b 0x80 then 1 else (if nat_lt b 0xC0 then 0 else (if nat_lt b 0xF0 then 1 else 2))
units Utf32 b = if begins_character b then 1 else 0

-- how many bytes the longest front of the bytes has that adds no more units than these
abbrev pub front_within : Encoding → ℕ → List ℕ → ℕ
front_within e room [] = 0
front_within e room (b ∷ bs) = if nat_le (units e b) room then 1 + front_within e (room - units e b) bs else 0

-- the byte of the line and the character, both from 0
abbrev pub byte_in : Encoding → List Line → ℕ → ℕ → ℕ
byte_in e [] line character = 0
byte_in e (l ∷ ls) zero character = front_within e character l.bytes
byte_in e (l ∷ ls) (suc line) character = length (whole l) + byte_in e ls line character

abbrev pub byte_of : Encoding → List Line → Position → ℕ
byte_of e lines p = byte_in e lines p.line p.character

-- the position a line below
abbrev pub below : Position → Position
below p = record { line = p.line + 1; character = p.character }

-- the position of the byte: within the end of a line that of the end
abbrev pub position_of : Encoding → List Line → ℕ → Position
position_of e [] byte = record { line = 0; character = 0 }
position_of e (l ∷ ls) byte =
    if nat_lt byte (length (whole l)) || (length ls == 0) then record { line = 0; character = sum_by (units e) (take byte l.bytes) }
    else below (position_of e ls (byte - length (whole l)))

-- whether a character begins at the byte of the text, or the text ends there
abbrev pub is_boundary : List ℕ → ℕ → Bool
is_boundary text byte = (byte == length text) || (nat_lt byte (length text) && begins_character (slice_index text byte))

-- the last such byte that is not beyond this one
abbrev pub boundary_to : List ℕ → ℕ → ℕ
boundary_to text zero = 0
boundary_to text (suc byte) = if is_boundary text (suc byte) then suc byte else boundary_to text byte
