-- Places and spans of a source.
use Rattle.std.specs.Prelude.{ℕ, ◌+◌, ◌≤◌, Bool, ◌||◌, ◌==◌, nat_lt, nat_le, List, ◌++◌, length, count_by}
use Rattle.std.specs.List.{after_last}
use Rattle.std.specs.Str.{IsCharBoundary}
use Rattle.tera_lexer.specs.declared.lexer.place.Place.{Place}
use Rattle.tera_base.specs.declared.utils.Span.{Span}

abbrev pub is_line_feed : ℕ → Bool
is_line_feed b = b == 10

-- the byte begins a character: it is not a continuation byte
abbrev pub begins_character : ℕ → Bool
begins_character b = nat_lt b 0x80 || nat_le 0xC0 b

-- the place after these first bytes of a source: its line is one more than there are line feeds, its column the number
-- of characters after the last of them, and its byte the number of bytes
unfoldable pub place_after : List ℕ → Place
place_after front = record {
  line = 1 + count_by is_line_feed front;
  column = count_by begins_character (after_last is_line_feed front);
  byte = length front;
}

-- from one place to another
abbrev pub joined : Place → Place → Span
joined start end = record {
  start_line = start.line;
  start_col = start.column;
  end_line = end.line;
  end_col = end.column;
  range = record { start = start.byte; end = end.byte };
}

-- the span of a text that comes after these first bytes of a source
abbrev pub span_of : List ℕ → List ℕ → Span
span_of front text = joined (place_after front) (place_after (front ++ text))

-- the range of the span lies in the source, between characters
abbrev pub IsWithin : List ℕ → Span → Type 0
IsWithin source span =
    (span.range.start ≤ span.range.end) × IsCharBoundary source span.range.start × IsCharBoundary source span.range.end
