-- The difference of two texts in unified form.
use Rattle.std.specs.Prelude.{◌+◌, ◌-◌, ◌/◌, ◌%◌, ◌++◌, ◌==◌, ◌&&◌, ◌||◌, nat_le, if◌then◌else◌, not, ℕ, Bool, List, [], ◌∷◌, length, take, slice_index, chars, codes, encode_utf8}
use Rattle.std.specs.List.{flat_map, list_any}
use Rattle.std.specs.Str.{bytes_eq}
use Rattle.std.specs.Fmt.{decimal}
use Rattle.terminal_text.specs.Styled.{styled}
use Rattle.terminal_text.specs.Edits.{EditView, SameLine, OtherLines, lines_of, edits_of}
use Rattle.terminal_text.specs.Hunks.{PlacedView, edits_in, old_lines, new_lines, hunks_of}
use Rattle.terminal_text.specs.declared.style.Part.{Part}
use Rattle.terminal_text.specs.declared.style.Part.TheVariants.{Place, Frame, Gone, New}
use Rattle.terminal_text.specs.declared.style.Style.{Style}

-- a space, a quote, a backslash or a control character
abbrev pub is_special : ℕ → Bool
is_special b = nat_le b 32 || (b == 34 || (b == 92 || b == 127))

-- a character between quotes: a control character by its number in octal
abbrev pub quoted_character : ℕ → List ℕ
quoted_character c =
    if c == 34 then codes "\\\""
    else (if c == 92 then codes "\\\\"
    else (if is_special c && not (c == 32) then codes "\\" ++ (decimal (c / 64) ++ (decimal (c / 8 % 8) ++ decimal (c % 8)))
    else encode_utf8 c))

-- the name of a file: as it is, or in quotes
abbrev pub name_text : List ℕ → List ℕ
name_text file = if list_any is_special file then codes "\"" ++ (flat_map quoted_character (chars file) ++ codes "\"") else file

-- a text in a colour, on a line of its own
abbrev pub styled_line : Style → Part → List ℕ → List ℕ
styled_line style part text = styled style part text ++ codes "\n"

-- whether the line ends with a line feed
abbrev pub has_end : List ℕ → Bool
has_end line = slice_index line (length line - 1) == 10

-- the line less that line feed
abbrev pub without_end : List ℕ → List ℕ
without_end line = if has_end line then take (length line - 1) line else line

-- what is printed after it
abbrev pub end_text : List ℕ → List ℕ
end_text line = if has_end line then codes "\n" else codes "\n\\ No newline at end of file\n"

-- a line after its sign
abbrev pub signed_line : Style → Part → List ℕ → List ℕ → List ℕ
signed_line style part sign line = styled style part (sign ++ without_end line) ++ end_text line

-- the lines of an edit: one of both texts, or those of the old and then those of the new
abbrev pub edit_text : Style → EditView → List ℕ
edit_text style (SameLine line) = codes " " ++ (without_end line ++ end_text line)
edit_text style (OtherLines old new) =
    flat_map (signed_line style Gone (codes "-")) old ++ flat_map (signed_line style New (codes "+")) new

-- so many lines after those before them: the number of the first, from 1, and how many, if not one; of none the number
-- of the line before
abbrev pub range_text : ℕ → ℕ → List ℕ
range_text before count =
    if count == 0 then decimal before ++ codes ",0"
    else (if count == 1 then decimal (before + 1) else decimal (before + 1) ++ (codes "," ++ decimal count))

-- the head of a hunk that begins with this edit
abbrev pub hunk_head : PlacedView → List EditView → List ℕ
hunk_head first edits =
    codes "@@ -" ++ (range_text first.old (old_lines edits)
    ++ (codes " +" ++ (range_text first.new (new_lines edits) ++ codes " @@")))

abbrev pub hunk_text : Style → List PlacedView → List ℕ
hunk_text style [] = []
hunk_text style (p ∷ ps) =
    styled_line style Frame (hunk_head p (edits_in (p ∷ ps))) ++ flat_map (edit_text style) (edits_in (p ∷ ps))

abbrev pub head_text : Style → List ℕ → List ℕ
head_text style file =
    styled_line style Place (codes "--- " ++ name_text file) ++ styled_line style Place (codes "+++ " ++ name_text file)

-- nothing where the texts are the same
abbrev pub difference_text : Style → List ℕ → List ℕ → List ℕ → List ℕ
difference_text style file old new =
    if bytes_eq old new then []
    else head_text style file ++ flat_map (hunk_text style) (hunks_of (edits_of (lines_of old) (lines_of new)))
