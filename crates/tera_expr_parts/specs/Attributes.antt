-- The strings of attributes, and the ends of calls of components.
use Rattle.std.specs.Prelude.{◌≡◌, Result, Ok, Err}
use Rattle.tera_base.specs.Values as values
use Rattle.tera_base.specs.declared.errors.Error.{Error}
use Rattle.tera_base.specs.declared.utils.Span.{Span}
use Rattle.tera_lexer.specs.grammar.Tokens.{Items}
use Rattle.tera_lexer.specs.code.Cursors.{Position}
use Rattle.tera_ast.specs.Tree as tree
use Rattle.tera_ast.specs.View.{expression_view}
use Rattle.tera_ast.specs.declared.ast.Expression.{Expression}
use Rattle.tera_grammar.specs.Reads.{found, ◌>>=◌, Takes, Fails}
use Rattle.tera_grammar.specs.expressions.Operators.{Div, GreaterThan}
use Rattle.tera_grammar.specs.expressions.Marks.{Operation}
use Rattle.tera_grammar.specs.expressions.Concrete.{Quote}
use Rattle.tera_grammar.specs.expressions.Output.{quote_text}
use Rattle.tera_grammar.specs.expressions.Reading.Front.{takes}

-- a string that is the value of an attribute
abbrev pub GivesQuote : Result Expression Error → Position → Takes (Quote × Span) → Type 0
GivesQuote (Ok e) new read = (x : Quote) × (read ≡ found ((x, new.span), new.left)) × (expression_view e ≡ tree.Const (values.Text (quote_text x)) new.span)
GivesQuote (Err e) new read = Fails read new.left e

-- `/` and `>`
abbrev pub closed_at : Items → Takes (Span × Span)
closed_at ts = takes (Operation Div) ts >>= λ t. takes (Operation GreaterThan) t.1 >>= λ u. found ((t.0, u.0), u.1)

abbrev pub ClosesAt : Result (Unit {0}) Error → Position → Takes (Span × Span) → Type 0
ClosesAt (Ok x) new read = (t : Span) × (read ≡ found ((t, new.span), new.left))
ClosesAt (Err e) new read = Fails read new.left e
