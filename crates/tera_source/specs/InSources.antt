-- Expressions in sources.
use Rattle.std.specs.Prelude.{ℕ, List}
use Rattle.tera_lexer.specs.grammar.Marks.{Marks}
use Rattle.tera_lexer.specs.grammar.Tokens.{Items, Token, AreTokensOf}
use Rattle.tera_grammar.specs.expressions.Concrete.{Tree, yield}

-- tokens, and then others
abbrev pub followed_by : Items → Items → Items
followed_by (Token t span items) rest = Token t span (followed_by items rest)
followed_by _ rest = rest

-- the tokens of the expression are in those of a source, one after another
pub record IsInSource (m : Marks) (source : List ℕ) (e : Tree) : Type 0 where
  pub before : Items
  pub following : Items
  pub tokens : AreTokensOf m source (followed_by before (yield e following))
