-- Where an expression is, and whether it needs parentheses there.
use Rattle.std.specs.Prelude.{ℕ, negsuc, Bool, true, false, ◌&&◌, ◌||◌, ltb}
use Rattle.tera_base.specs.Values as values
use Rattle.tera_base.specs.Values.{Val}
use Rattle.tera_ast.specs.declared.ast.BinaryOperator.{BinaryOperator}
use Rattle.tera_ast.specs.declared.ast.BinaryOperator.TheVariants as binary
use Rattle.tera_ast.specs.declared.ast.UnaryOperator.{UnaryOperator}
use Rattle.tera_ast.specs.declared.ast.UnaryOperator.TheVariants as unary
use Rattle.tera_ast.specs.Tree as tree
use Rattle.tera_ast.specs.Tree.{Expr}
use Rattle.tera_grammar.specs.expressions.Powers as powers
use Rattle.tera_source.specs.Source.{operator_for}
use Rattle.tera_source.specs.declared.context.Context.{Context}

-- nothing but a least left power is asked
abbrev pub above : ℕ → Context
above left = record { left = left; right = 0; plain = false }

abbrev pub free : Context
free = above 0

-- of what is before something
abbrev pub before : ℕ → Context → Context
before right c = record { left = c.left; right = right; plain = c.plain }

-- of what comes after an operator, and after a prefix
abbrev pub following : ℕ → Context → Context
following left c = record { left = left; right = c.right; plain = false }

abbrev pub after_prefix : ℕ → Context → Context
after_prefix left c = record { left = left; right = c.right; plain = true }

abbrev pub left_of : BinaryOperator → ℕ
left_of o = powers.left_of (operator_for o)

abbrev pub right_of : BinaryOperator → ℕ
right_of o = powers.right_of (operator_for o)

abbrev pub prefix_breaks : ℕ → Context → Bool
prefix_breaks power c = c.plain || ltb power c.right

abbrev pub operator_breaks : ℕ → ℕ → Context → Bool
operator_breaks left right c = ltb left c.left || ltb right c.right

abbrev pub is_negative : Val → Bool
is_negative (values.I64 (negsuc n)) = true
is_negative (values.I128 (negsuc n)) = true
is_negative _ = false

-- a `not` before it is written inside it
abbrev pub takes_negation : Expr → Bool
takes_negation (tree.Test e name g s) = true
takes_negation (tree.BinaryOperation binary.In a b s) = true
takes_negation _ = false

abbrev pub unary_breaks : UnaryOperator → Expr → Context → Bool
unary_breaks unary.Minus e c = prefix_breaks 20 c
unary_breaks unary.Not (tree.Test e name g s) c = ltb 5 c.left
unary_breaks unary.Not (tree.BinaryOperation binary.In a b s) c = operator_breaks 5 6 c
unary_breaks unary.Not e c = prefix_breaks 5 c

-- the expression, by itself, breaks what is asked
abbrev pub breaks : Expr → Context → Bool
breaks (tree.Const v s) c = is_negative v && prefix_breaks 20 c
breaks (tree.Filter e name g s) c = ltb 17 c.left
breaks (tree.Test e name g s) c = ltb 5 c.left
breaks (tree.Ternary e a b s) c = operator_breaks 0 0 c
breaks (tree.UnaryOperation o e s) c = unary_breaks o e c
breaks (tree.BinaryOperation o a b s) c = operator_breaks (left_of o) (right_of o) c
breaks _ c = false
