-- What holds of each token of a source holds of those of an expression that is in it.
use Rattle.std.proofs.Common.{ℕ, List}
use Rattle.tera_lexer.specs.grammar.Marks.{Marks}
use Rattle.tera_lexer.specs.grammar.Tokens.{Tok, Items, Ended, Failed, Token}
use Rattle.tera_grammar.specs.expressions.Concrete.{Tree, yield}
use Rattle.tera_spelling.specs.Given.{EachToken, IsGiven}
use Rattle.tera_spelling.proofs.Given.{source_given}
use Rattle.tera_source.specs.InSources.{followed_by, IsInSource}
use Rattle.tera_source.proofs.Holds.{Holds, holds}

last_hold : (P : Tok → Type 0) (before rest : Items) → EachToken P (followed_by before rest) → EachToken P rest
last_hold P (Token t span items) rest h = last_hold P items rest h.1
last_hold P Ended rest h = h
last_hold P (Failed text span) rest h = h

pub stands_given : (m : Marks) (source : List ℕ) (e : Tree) → IsInSource m source e → Holds IsGiven e
stands_given m source e s =
    (holds IsGiven e s.following (last_hold IsGiven s.before (yield e s.following) (source_given m source (followed_by s.before (yield e s.following)) s.tokens))).0
