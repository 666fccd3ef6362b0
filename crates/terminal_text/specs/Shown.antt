-- Characters as they are shown in a line of a source, and the columns that they take.
use Rattle.std.specs.Prelude.{ℕ, ◌==◌, if◌then◌else◌, List, [], ◌∷◌, codes, flat_map, sum_by, unwrap_or, false}
use Rattle.line_text.specs.Line.{is_unsafe}
use Rattle.unicode_width.specs.Width.{char_width}

-- the character itself, or U+FFFD for one that is not safe
abbrev pub seen : ℕ → ℕ
seen c = if is_unsafe c then 0xFFFD else c

-- what is shown for a character in a line of a source
abbrev pub shown_as : ℕ → List ℕ
shown_as c = if c == 9 then codes "    " else seen c ∷ []

abbrev pub shown : List ℕ → List ℕ
shown text = flat_map shown_as text

-- the columns of a character: none of one that joins the character before it, two of a wide one
abbrev pub width : ℕ → ℕ
width c = unwrap_or (char_width false c) 0

abbrev pub columns : List ℕ → ℕ
columns text = sum_by width text
