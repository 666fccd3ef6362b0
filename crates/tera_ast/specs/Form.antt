-- What the form of an expression or a node says alone.
use Rattle.std.specs.Prelude.{Bool, true, false, Option, None, Some}
use Rattle.tera_base.specs.declared.utils.Spanned.{Spanned}
use Rattle.tera_base.specs.declared.values.Value.{Value}
use Rattle.tera_ast.specs.declared.ast.Expression.{Expression}
use Rattle.tera_ast.specs.declared.ast.Expression.TheVariants.{Const}
use Rattle.tera_ast.specs.declared.ast.Expression.TheVariants as expressions
use Rattle.tera_ast.specs.declared.ast.Node.{Node}
use Rattle.tera_ast.specs.declared.ast.Node.TheVariants as nodes
use Rattle.tera_ast.specs.declared.forms.ExpressionForm.{ExpressionForm}
use Rattle.tera_ast.specs.declared.forms.ExpressionForm.TheVariants as expression_forms
use Rattle.tera_ast.specs.declared.forms.NodeForm.{NodeForm}
use Rattle.tera_ast.specs.declared.forms.NodeForm.TheVariants as node_forms

-- the constant that it is
abbrev pub constant_in : Expression → Option (Spanned Value)
constant_in (Const c) = Some c
constant_in _ = None

-- whether it is a choice
abbrev pub is_if : Node → Bool
is_if (nodes.If' _ _ _ _ _) = true
is_if _ = false

-- the expression of a form
abbrev pub expression_from : ExpressionForm → Expression
expression_from (expression_forms.Const it) = expressions.Const it
expression_from (expression_forms.Array it) = expressions.Array it
expression_from (expression_forms.Map it) = expressions.Map it
expression_from (expression_forms.Var it) = expressions.Var it
expression_from (expression_forms.GetAttr it) = expressions.GetAttr it
expression_from (expression_forms.GetItem it) = expressions.GetItem it
expression_from (expression_forms.Slice it) = expressions.Slice it
expression_from (expression_forms.Filter it) = expressions.Filter it
expression_from (expression_forms.Test it) = expressions.Test it
expression_from (expression_forms.Ternary it) = expressions.Ternary it
expression_from (expression_forms.ListComprehension it) = expressions.ListComprehension it
expression_from (expression_forms.ComponentCall it) = expressions.ComponentCall it
expression_from (expression_forms.FunctionCall it) = expressions.FunctionCall it
expression_from (expression_forms.UnaryOperation it) = expressions.UnaryOperation it
expression_from (expression_forms.BinaryOperation it) = expressions.BinaryOperation it

-- the node of a form
abbrev pub node_from : NodeForm → Node
node_from (node_forms.Content it) = nodes.Content it
node_from (node_forms.Expression it) = nodes.Expression it
node_from (node_forms.Set it) = nodes.Set it
node_from (node_forms.BlockSet it) = nodes.BlockSet it
node_from (node_forms.Include it) = nodes.Include it
node_from (node_forms.Block it) = nodes.Block it
node_from (node_forms.ForLoop it) = nodes.ForLoop it
node_from node_forms.Break = nodes.Break
node_from node_forms.Continue = nodes.Continue
node_from (node_forms.If it) = nodes.If it
node_from (node_forms.FilterSection it) = nodes.FilterSection it
