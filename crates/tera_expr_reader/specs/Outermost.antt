-- What outermost calls answer stands for, as it is read.
use Rattle.std.specs.Prelude.{◌≡◌, Bool, List, String, string_bytes}
use Rattle.std.specs.declared.alloc.Global.{Global}
use Rattle.tera_base.specs.Values as values
use Rattle.tera_base.specs.ValueView.{value_view}
use Rattle.tera_base.specs.declared.utils.Span.{Span}
use Rattle.tera_base.specs.declared.values.Value.{Value}
use Rattle.tera_ast.specs.View.{args_view, entries_view, expression_view}
use Rattle.tera_ast.specs.declared.ast.Expression.{Expression}
use Rattle.tera_ast.specs.declared.ast.MapEntryOf.{MapEntryOf}
use Rattle.tera_grammar.specs.expressions.Companions.{Opened, kwargs_output}
use Rattle.tera_grammar.specs.statements.Expressions as expressions
use Rattle.tera_grammar.specs.statements.Expressions.{Filtering, Attributes, ComponentName, LiteralArray, LiteralMap, expression_output, filter_output, attributes_output, component_text, array_output, map_output}

-- an expression, in a loop or not; a filter of a tag, whose input is at the span
abbrev pub IsExpression : Bool → Expression → expressions.Expression → Type 0
IsExpression in_loop e t = expression_view e ≡ expression_output in_loop t

abbrev pub IsFilter : Bool → Span → Expression → Filtering → Type 0
IsFilter in_loop span e f = expression_view e ≡ filter_output in_loop span f

-- attributes, and arguments with their parentheses
abbrev pub AreAttributes : Bool → List (MapEntryOf Expression) → Attributes → Type 0
AreAttributes in_loop es a = entries_view es ≡ attributes_output in_loop a

abbrev pub AreKwargs : Bool → List (String Global × Expression) → Opened → Type 0
AreKwargs in_loop m x = args_view m ≡ kwargs_output in_loop x

-- the name of a component; a constant array, and a constant map
abbrev pub IsComponent : String Global → ComponentName → Type 0
IsComponent s n = string_bytes s ≡ component_text n

abbrev pub IsArray : Value → LiteralArray → Type 0
IsArray v a = value_view v ≡ values.Array (array_output a)

abbrev pub IsMap : Value → LiteralMap → Type 0
IsMap v m = value_view v ≡ values.Map (map_output m)
