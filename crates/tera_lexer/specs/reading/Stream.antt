-- What a `Tokens` still gives.
use Rattle.std.specs.Prelude.{ℕ, List, Option}
use Rattle.tera_lexer.specs.grammar.Tokens.{Items}

-- the source; the tokens that are left, to its end or to its fault; and, once reading stopped, those before
-- which it did: then none is left
pub record Stream : Type 0 where
  pub source : List ℕ
  pub left : Items
  pub stopped : Option Items
