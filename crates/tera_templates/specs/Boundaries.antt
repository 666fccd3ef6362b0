-- Parts of texts between two of their bytes.
use Rattle.std.specs.Prelude.{ℕ, ◌-◌, nat_le, List, Bool, ◌&&◌, ◌||◌, if◌then◌else◌, length, slice_index, Option, None, Some}
use Rattle.std.specs.Str.{bytes_eq}
use Rattle.tera_lexer.specs.grammar.Place.{begins_character}
use Rattle.tera_templates.specs.Lost.{part_at}

-- the text has all bytes between these two, and what it has between them
abbrev pub has_bytes : ℕ × ℕ → List ℕ → Bool
has_bytes (start, end) text = nat_le start end && nat_le end (length text)

abbrev pub bytes_between : ℕ × ℕ → List ℕ → List ℕ
bytes_between (start, end) text = part_at start (end - start) text

-- two texts have the same bytes there
abbrev pub is_same_part : List ℕ → List ℕ → ℕ × ℕ → Bool
is_same_part one other mark =
    has_bytes mark one && (has_bytes mark other && bytes_eq (bytes_between mark one) (bytes_between mark other))

-- a character of the text begins at the byte, or the text ends there
abbrev pub is_boundary : List ℕ → ℕ → Bool
is_boundary text at = nat_le at (length text) && (nat_le (length text) at || begins_character (slice_index text at))

-- what a text has between two bytes, if these are between characters
abbrev pub text_at : List ℕ → ℕ × ℕ → Option (List ℕ)
text_at text (start, end) =
    if is_boundary text start && (is_boundary text end && nat_le start end)
    then Some (bytes_between (start, end) text) else None
