-- Where the reading of a source is.
use Rattle.std.specs.Prelude.{ℕ, Bool, List, Option}
use Rattle.tera_lexer.specs.grammar.Marks.{Marks}
use Rattle.tera_lexer.specs.declared.lexer.delimiters.Kind.{Kind}

-- what is before and after the place that is reached, the tag that is open there, whether a dash that was passed trims
-- the start of the next text, and whether a fault was reported
pub record Progress : Type 0 where
  pub marks : Marks
  pub front : List ℕ
  pub rest : List ℕ
  pub tag : Option Kind
  pub trim : Bool
  pub failed : Bool
