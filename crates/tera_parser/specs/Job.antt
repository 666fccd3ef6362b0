-- What a parser is given.
use Rattle.std.specs.Prelude.{ℕ, List}
use Rattle.tera_lexer.specs.grammar.Marks.{Marks}
use Rattle.tera_grammar.specs.Limits.{Limits}

pub record Job : Type 0 where
  pub filename : List ℕ
  pub source : List ℕ
  pub marks : Marks
  pub limits : Limits
