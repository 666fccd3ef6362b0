-- Texts on one line, which a terminal shows and does not obey.
use Rattle.std.specs.Prelude.{ℕ, Bool, ◌≡◌, ◌+◌, ◌/◌, ◌%◌, ◌||◌, ◌==◌, false, nat_lt, if◌then◌else◌, List, [], ◌∷◌, ◌++◌, codes, chars, encode_utf8_all, flat_map}
use Rattle.std.specs.Char.{is_control}
use Rattle.std.specs.Int.{is_in_range}

-- the separators of lines and of paragraphs
abbrev pub separates_lines : ℕ → Bool
separates_lines c = is_in_range 0x2028 0x2029 c

-- the characters of Unicode's property Bidi_Control: none is seen, and each turns the direction of the text about it
abbrev pub turns_direction : ℕ → Bool
turns_direction c = c == 0x61C || is_in_range 0x200E 0x200F c || is_in_range 0x202A 0x202E c || is_in_range 0x2066 0x2069 c

-- what is never shown as it is: control characters (C0, DEL and C1), separators, and what turns the direction of text
abbrev pub is_unsafe : ℕ → Bool
is_unsafe c = is_control c || (separates_lines c || turns_direction c)

abbrev pub IsSafe : ℕ → Type 0
IsSafe c = is_unsafe c ≡ false

-- a character of ASCII that is not a control character
abbrev pub is_printable : ℕ → Bool
is_printable c = is_in_range 0x20 0x7E c

-- a digit of a number to the base 16
abbrev pub hex_digit : ℕ → ℕ
hex_digit n = if nat_lt n 10 then 48 + n else 87 + n

-- a character by its number, as JSON has it
abbrev pub number_escape : ℕ → List ℕ
number_escape c =
    codes "\\u" ++ (hex_digit (c / 4096 % 16) ∷ hex_digit (c / 256 % 16) ∷ hex_digit (c / 16 % 16) ∷ hex_digit (c % 16) ∷ [])

-- what is shown in the place of a character
abbrev pub escape : ℕ → List ℕ
escape c =
    if c == 9 then codes "\\t" else (if c == 10 then codes "\\n" else (if c == 13 then codes "\\r" else number_escape c))

-- a character as a line has it
abbrev pub safe_as : ℕ → List ℕ
safe_as c = if is_unsafe c then escape c else c ∷ []

abbrev pub safe_line : List ℕ → List ℕ
safe_line text = flat_map safe_as text

-- a text on one line, as bytes
abbrev pub on_one_line : List ℕ → List ℕ
on_one_line text = encode_utf8_all (safe_line (chars text))

-- a text with lines of its own: its line feeds and tabs stay
abbrev pub lines_as : ℕ → List ℕ
lines_as c = if c == 9 || c == 10 then c ∷ [] else safe_as c

abbrev pub on_lines : List ℕ → List ℕ
on_lines text = encode_utf8_all (flat_map lines_as (chars text))
