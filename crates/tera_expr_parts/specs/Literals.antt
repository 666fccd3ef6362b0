-- Constants, and what a minus before them comes to.
use Rattle.std.specs.Prelude.{◌≡◌, ◌⊎◌, ℤ, neg_ℤ, Option, Some, None, FitsSigned, Result, Ok, Err}
use Rattle.std.specs.Int.{w64}
use Rattle.tera_base.specs.declared.errors.Error.{Error}
use Rattle.tera_base.specs.Values as values
use Rattle.tera_base.specs.declared.utils.Span.{Span}
use Rattle.tera_lexer.specs.grammar.Tokens.{Tok}
use Rattle.tera_ast.specs.Tree as tree
use Rattle.tera_ast.specs.View.{expression_view}
use Rattle.tera_ast.specs.declared.ast.Expression.{Expression}
use Rattle.tera_grammar.specs.expressions.Concrete.{Lit}
use Rattle.tera_grammar.specs.expressions.Output.{literal_value}
use Rattle.tera_grammar.specs.expressions.Constants.{HoldsOf}
use Rattle.tera_grammar.specs.expressions.Reading.Front.{literal_of}
use Rattle.tera_base.specs.Errors.{IsMemory}

-- a whole number that has a negation among the numbers of 64 bits
abbrev pub IsNegatable : ℤ → Type 0
IsNegatable n = FitsSigned w64 n × FitsSigned w64 (neg_ℤ n)

-- a minus before the expression does not overflow
abbrev pub MayBeNegated : tree.Expr → Type 0
MayBeNegated e = HoldsOf IsNegatable e

-- the whole number that an expression is
abbrev pub number_of : tree.Expr → Option ℤ
number_of (tree.Const (values.I64 n) s) = Some n
number_of _ = None

-- a token that is a constant is read as it
abbrev pub GivesLiteral : Tok → Span → Result Expression Error → Type 0
GivesLiteral t span (Ok e) = (x : Lit) × (literal_of t ≡ Some x) × (expression_view e ≡ tree.Const (literal_value x) span)
GivesLiteral t span (Err e) = IsMemory e ⊎ (literal_of t ≡ None)
