-- What the statements use of expressions and of the parts that are read with them: the names under which they use them,
-- and the conditions on each part within the limits.
use Rattle.std.specs.Prelude.{Bool}
use Rattle.tera_base.specs.Values.{Vals, Pairs}
use Rattle.tera_base.specs.declared.utils.Span.{Span}
use Rattle.tera_lexer.specs.grammar.Tokens.{Items}
use Rattle.tera_grammar.specs.expressions.Measures.{Within, EachRow, EachAttribute}
use Rattle.tera_grammar.specs.expressions.Conditions as conditions
use Rattle.tera_grammar.specs.expressions.Spans.{dotted_end}
use Rattle.tera_grammar.specs.expressions.Companions as companions
use Rattle.tera_grammar.specs.expressions.Companions.{Opened, EachArgs, ArrayWithin}
pub use Rattle.tera_grammar.specs.Limits.{Limits}
pub use Rattle.tera_grammar.specs.expressions.Concrete.{Tree as Expression, Attributes, yield as expression_yield, attributes_yield}
pub use Rattle.tera_grammar.specs.expressions.Output.{output as expression_output, attributes_output}
-- a filter of a tag has a constant of no value as its input
pub use Rattle.tera_grammar.specs.expressions.Companions.{Filtering, filter_yield, filter_output}
pub use Rattle.tera_grammar.specs.expressions.Companions.{Path as ComponentName, path_yield as component_yield, path_output as component_text}

-- a constant array, and a constant map: as it is written, and what it holds
abbrev pub LiteralArray : Type 0
LiteralArray = Opened × Vals

abbrev pub LiteralMap : Type 0
LiteralMap = Opened × Pairs

-- The conditions, within the limits, in a loop or not.
unfoldable pub IsExpression : Limits → Bool → Expression → Type 0
IsExpression l in_loop e = conditions.IsExpression in_loop e × Within l e

unfoldable pub IsFilter : Limits → Bool → Filtering → Type 0
IsFilter l in_loop f = conditions.AreArgs in_loop f.args × EachArgs (Within l) f.args

unfoldable pub AreAttributes : Limits → Bool → Attributes → Type 0
AreAttributes l in_loop a = conditions.AreAttributes in_loop a × EachAttribute (Within l) a

unfoldable pub IsLiteralArray : Limits → LiteralArray → Type 0
IsLiteralArray l a = companions.IsArray a.0 a.1 × ArrayWithin l a.0

unfoldable pub IsLiteralMap : Limits → LiteralMap → Type 0
IsLiteralMap l m = companions.IsMap m.0 m.1 × EachRow (Within l) m.0.row

-- the tokens of an array and of a map, in front of others, and what each holds
unfoldable pub array_yield : LiteralArray → Items → Items
array_yield a items = companions.array_yield a.0 items

unfoldable pub map_yield : LiteralMap → Items → Items
map_yield m items = companions.map_yield m.0 items

unfoldable pub array_output : LiteralArray → Vals
array_output a = a.1

unfoldable pub map_output : LiteralMap → Pairs
map_output m = m.1

-- where the last part of the name of a component is
unfoldable pub component_span : ComponentName → Span
component_span n = dotted_end n.name.span n.further
