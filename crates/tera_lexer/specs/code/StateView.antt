-- From the fields of a `Tokens` to where it is.
use Rattle.std.specs.Prelude.{◌≡◌, take, drop, IsUtf8}
use Rattle.std.specs.Str.{IsCharBoundary}
use Rattle.tera_lexer.specs.grammar.Marks.{marks_of, IsValid}
use Rattle.tera_lexer.specs.grammar.Place.{place_after}
use Rattle.tera_lexer.specs.reading.State.{Progress}
use Rattle.tera_lexer.specs.code.Markers.{ArePairs, IsAhead}
use Rattle.tera_lexer.specs.declared.lexer.scanner.Scanner.TheInside.{Inside}

abbrev pub reading_of : Inside → Progress
reading_of t = record {
  marks = marks_of t.delimiters;
  front = take t.place.byte t.source.now;
  rest = drop t.place.byte t.source.now;
  tag = t.tag;
  trim = t.trim;
  failed = t.failed;
}

-- what is left is kept, and what is known of a piece is so; the counters are those of the place that is reached, and a character begins there, in a text
pub record IsAtPlace (t : Inside) : Type 0 where
  pub following : t.rest.now ≡ drop t.place.byte t.source.now
  pub cut : IsCharBoundary t.source.now t.place.byte
  pub place : t.place ≡ place_after (take t.place.byte t.source.now)
  pub marks : IsValid (marks_of t.delimiters)
  pub text : IsUtf8 t.source.now
  pub pairs : ArePairs (marks_of t.delimiters) t.pairs
  pub ahead : IsAhead (marks_of t.delimiters) (drop t.ahead_at t.source.now) t.ahead
