-- What is asked from another language, and whether it can be read.
use Rattle.std.specs.Prelude.{◌≡◌, ℕ, List, length, take, drop, IsUtf8}
use Rattle.tera_lexer.specs.grammar.Marks.{Marks, AreTexts, IsValid}
use Rattle.tera_grammar.specs.Limits.{Limits}
use Rattle.tera_expr_parts.specs.Allowed.{AreValid}
use Rattle.tera_c.specs.declared.shapes.AskedLimits.{AskedLimits}

-- six markers, of two bytes each, one after the other
abbrev pub marks_at : List ℕ → Marks
marks_at bytes = record {
  block_start = take 2 bytes;
  block_end = take 2 (drop 2 bytes);
  variable_start = take 2 (drop 4 bytes);
  variable_end = take 2 (drop 6 bytes);
  comment_start = take 2 (drop 8 bytes);
  comment_end = take 2 (drop 10 bytes);
}

-- twelve bytes that are the markers of a template
abbrev pub AreMarkers : List ℕ → Type 0
AreMarkers bytes = (length bytes ≡ 12) × AreTexts (marks_at bytes) × IsValid (marks_at bytes)

abbrev pub limits_at : AskedLimits → Limits
limits_at l = record {
  depth = l.depth;
  links = l.links;
  subscripts = l.subscripts;
  arrays = l.arrays;
  bodies = l.bodies;
}

-- a template can be read from what is asked: limits, markers and a source
pub record IsReadable (l : Limits) (markers source : List ℕ) : Type 0 where
  pub room : AreValid l
  pub marks : AreMarkers markers
  pub text : IsUtf8 source
