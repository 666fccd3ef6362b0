-- The lines of a source.
use Rattle.std.specs.List.{slice_split}
use Rattle.std.specs.Prelude.{ℕ, get_or, zero, suc, ◌≡◌, ◌<◌, ◌*◌, ◌==◌, List, map, length, take, chars, encode_utf8_all, Option, None, Some, slice_get}
use Rattle.std.specs.Str.Lines.{strip_carriage_return}

-- what is between line feeds
abbrev pub parts : List ℕ → List (List ℕ)
parts source = slice_split (λ b. b == 10) source

-- the lines without their ends; after a last line feed there is an empty one
abbrev pub lines_of : List ℕ → List (List ℕ)
lines_of source = map strip_carriage_return (parts source)

-- the line of that number, from 1
abbrev pub line_in : List (List ℕ) → ℕ → Option (List ℕ)
line_in lines zero = None
line_in lines (suc before) = slice_get lines before

-- the same of a source that may be there
abbrev pub line_at : Option (List ℕ) → ℕ → Option (List ℕ)
line_at None number = None
line_at (Some source) number = line_in (lines_of source) number

-- the byte at which the character of that number begins, from 0, or the end of the text
abbrev pub offset_at : List ℕ → ℕ → ℕ
offset_at text number = length (encode_utf8_all (take number (chars text)))

-- each mark is where a character begins, of which 128 are from one mark to the next
abbrev pub AreMarks : List ℕ → List ℕ → Type 0
AreMarks text marks = (k : ℕ) → k < length marks → get_or marks k 0 ≡ offset_at text (k * 128)
