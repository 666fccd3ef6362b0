-- Where a text has a word.
use Rattle.std.specs.Prelude.{ℕ, ◌+◌, ◌-◌, List, [], ◌∷◌, Bool, ◌&&◌, ◌||◌, if◌then◌else◌, Option, None, Some, bytes_eq, codes, drop, length, nat_eq, nat_le, slice_range, take}
use Rattle.std.specs.Char.{is_ascii_whitespace}
use Rattle.std.specs.List.{list_any, prefix_len}
use Rattle.std.specs.Option.{option_and_then}
use Rattle.tera_templates.specs.Boundaries.{bytes_between, has_bytes, is_boundary}
use Rattle.tera_fixes.specs.declared.parts.Part.{Part}

-- what may be between the name of a component or an argument and the place of a finding
abbrev pub is_mark : ℕ → Bool
is_mark byte = is_ascii_whitespace byte || list_any (λ mark. nat_eq mark byte) (codes "<>={(")

-- what may be after the value of an argument
abbrev pub is_closing : ℕ → Bool
is_closing byte = is_ascii_whitespace byte || list_any (λ mark. nat_eq mark byte) (codes ")}")

-- the text has the word from the byte on, between characters
abbrev pub has_room : List ℕ → List ℕ → ℕ → Bool
has_room text word start = nat_le (start + length word) (length text)

abbrev pub has_word : List ℕ → List ℕ → ℕ → Bool
has_word text word start =
    has_room text word start && (bytes_eq (slice_range text start (start + length word)) word && (is_boundary text start && is_boundary text (start + length word)))

-- the part that is the word there
abbrev pub part_at : List ℕ → List ℕ → ℕ → Option Part
part_at text word start = if has_word text word start then Some (record { start = start; end = start + length word }) else None

-- .. if only marks are between the byte and the word
abbrev pub part_after : List ℕ → List ℕ → ℕ → Option Part
part_after text word byte =
    if nat_le byte (length text) then part_at text word (byte + prefix_len is_mark (drop byte text)) else None

-- the text without the marks at its end
abbrev pub before_marks : ℕ → List ℕ → List ℕ
before_marks byte [] = if is_mark byte then [] else byte ∷ []
before_marks byte (b ∷ bs) = byte ∷ b ∷ bs

abbrev pub without_marks : List ℕ → List ℕ
without_marks [] = []
without_marks (b ∷ bs) = before_marks b (without_marks bs)

-- the part that ends with the byte
abbrev pub part_ending : List ℕ → List ℕ → ℕ → Option Part
part_ending text word end = if nat_le (length word) end then part_at text word (end - length word) else None

-- .. if only marks are between the word and the byte
abbrev pub part_before : List ℕ → List ℕ → ℕ → Option Part
part_before text word byte =
    if nat_le byte (length text) then part_ending text word (length (without_marks (take byte text))) else None

-- .. and a `=` is among them, as between the name of an argument and its value
abbrev pub has_equals : List ℕ → ℕ → ℕ → Bool
has_equals text start end = has_bytes (start, end) text && list_any (λ b. nat_eq b 61) (bytes_between (start, end) text)

abbrev pub name_before : List ℕ → List ℕ → ℕ → Option Part
name_before text name byte =
    option_and_then (λ (p : Part). if has_equals text p.end byte then Some p else None) (part_before text name byte)

-- where an argument ends whose value ends with the byte
abbrev pub between_characters : List ℕ → ℕ → Option ℕ
between_characters text byte = if is_boundary text byte then Some byte else None

abbrev pub argument_end : List ℕ → ℕ → Option ℕ
argument_end text byte =
    if nat_le byte (length text) then between_characters text (byte + prefix_len is_closing (drop byte text)) else None

-- the argument that begins with a byte, and whose value ends with another
abbrev pub argument_part : List ℕ → ℕ → ℕ → Option Part
argument_part text start end =
    option_and_then (λ e. if nat_le start e then Some (record { start = start; end = e }) else None) (argument_end text end)
