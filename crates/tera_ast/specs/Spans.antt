-- Where an expression is.
use Rattle.std.specs.Prelude.{Bool, true, false}
use Rattle.tera_base.specs.declared.utils.Span.{Span}
use Rattle.tera_ast.specs.Tree.{Expr, Const, Array, Map, Var, GetAttr, GetItem, Slice, Filter, Test, Ternary, ListComprehension, ComponentCall, FunctionCall, UnaryOperation, BinaryOperation}

abbrev pub is_const : Expr → Bool
is_const (Const v span) = true
is_const _ = false

abbrev pub expr_span : Expr → Span
expr_span (Const v span) = span
expr_span (Array es span) = span
expr_span (Map es span) = span
expr_span (Var name span) = span
expr_span (GetAttr e name optional span) = span
expr_span (GetItem e sub optional span) = span
expr_span (Slice e start end step optional span) = span
expr_span (Filter e name args span) = span
expr_span (Test e name args span) = span
expr_span (Ternary e given other span) = span
expr_span (ListComprehension e key value target condition span) = span
expr_span (ComponentCall name es body closed span) = span
expr_span (FunctionCall name args span) = span
expr_span (UnaryOperation op e span) = span
expr_span (BinaryOperation op l r span) = span

-- the same expression at another place
abbrev pub with_span : Span → Expr → Expr
with_span span (Const v old) = Const v span
with_span span (Array es old) = Array es span
with_span span (Map es old) = Map es span
with_span span (Var name old) = Var name span
with_span span (GetAttr e name optional old) = GetAttr e name optional span
with_span span (GetItem e sub optional old) = GetItem e sub optional span
with_span span (Slice e start end step optional old) = Slice e start end step optional span
with_span span (Filter e name args old) = Filter e name args span
with_span span (Test e name args old) = Test e name args span
with_span span (Ternary e given other old) = Ternary e given other span
with_span span (ListComprehension e key value target condition old) = ListComprehension e key value target condition span
with_span span (ComponentCall name es body closed old) = ComponentCall name es body closed span
with_span span (FunctionCall name args old) = FunctionCall name args span
with_span span (UnaryOperation op e old) = UnaryOperation op e span
with_span span (BinaryOperation op l r old) = BinaryOperation op l r span

-- the place of a node that is nowhere
abbrev pub nowhere : Span
nowhere = record { start_line = 0; start_col = 0; end_line = 0; end_col = 0; range = record { start = 0; end = 0 } }
