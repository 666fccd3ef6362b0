-- What is in tags and is made of expressions: arguments, a filter, the name of a component, arrays and maps of
-- constants. Each value in them is an outermost expression, with limits of its own.
use Rattle.std.specs.Prelude.{◌≡◌, ℕ, ◌+◌, ◌≤◌, Bool, false, List, Option, Some}
use Rattle.tera_base.specs.Values as values
use Rattle.tera_base.specs.declared.utils.Span.{Span}
use Rattle.tera_lexer.specs.grammar.Tokens.{Items}
use Rattle.tera_ast.specs.Tree as tree
use Rattle.tera_base.specs.Values.{NoPairs}
use Rattle.tera_ast.specs.Tree.{Expr}
use Rattle.tera_grammar.specs.expressions.Marks.{mark, LeftParen, LeftBracket, LeftBrace}
use Rattle.tera_grammar.specs.expressions.Concrete.{Name, Dotted, Tree, Row, Args, no_args, args, of_arguments, of_items, of_entries, name_yield, dotted_yield, row_yield, args_yield}
use Rattle.tera_grammar.specs.Words.{AreDistinct}
use Rattle.tera_grammar.specs.expressions.Conditions.{IsRow, argument_names}
use Rattle.tera_grammar.specs.Limits.{Limits}
use Rattle.tera_grammar.specs.expressions.Measures.{Within, EachRow, arrays, row_measure}
use Rattle.tera_grammar.specs.expressions.Spans.{spanning, args_end}
use Rattle.tera_grammar.specs.expressions.Output.{arguments_output, args_output, items_output, entries_output, component_text, constant_items, constant_entries}

-- an opening mark, and a row up to what closes it
pub record Opened : Type 0 where
  pub mark : Span
  pub row : Row

-- the arguments of a call
abbrev pub kwargs_yield : Opened → Items → Items
kwargs_yield x r = mark LeftParen x.mark (row_yield of_arguments x.row r)

abbrev pub AreKwargs : Bool → Opened → Type 0
AreKwargs in_loop x = IsRow in_loop of_arguments x.row × AreDistinct (argument_names x.row)

abbrev pub kwargs_output : Bool → Opened → tree.Args
kwargs_output in_loop x = arguments_output in_loop x.row tree.NoArgs

-- a filter: its name and its arguments; what it filters is elsewhere
pub record Filtering : Type 0 where
  pub name : Name
  pub args : Args

abbrev pub filter_yield : Filtering → Items → Items
filter_yield x r = name_yield x.name (args_yield x.args r)

abbrev pub EachArgs : (Tree → Type 0) → Args → Type 0
EachArgs P no_args = Unit {0}
EachArgs P (args s row) = EachRow P row

-- the span is that of the mark before the filter
abbrev pub filter_output : Bool → Span → Filtering → Expr
filter_output in_loop span x =
    tree.Filter (tree.Const values.Nothing span) x.name.text (args_output in_loop x.args) (spanning x.name.span (args_end x.name x.args))

-- the name of a component
pub record Path : Type 0 where
  pub name : Name
  pub further : Dotted

abbrev pub path_yield : Path → Items → Items
path_yield x r = name_yield x.name (dotted_yield x.further r)

abbrev pub path_output : Path → List ℕ
path_output x = component_text x.name x.further

-- an array of constants
abbrev pub array_yield : Opened → Items → Items
array_yield x r = mark LeftBracket x.mark (row_yield of_items x.row r)

abbrev pub array_value : Opened → Option values.Vals
array_value x = constant_items (items_output false x.row)

abbrev pub IsArray : Opened → values.Vals → Type 0
IsArray x vs = IsRow false of_items x.row × (array_value x ≡ Some vs)

-- each item within the limits, and the arrays of the whole
abbrev pub ArrayWithin : Limits → Opened → Type 0
ArrayWithin limits x = (row_measure arrays x.row + 1 ≤ limits.arrays) × EachRow (Within limits) x.row

-- a map of constants
abbrev pub map_yield : Opened → Items → Items
map_yield x r = mark LeftBrace x.mark (row_yield of_entries x.row r)

abbrev pub map_value : Opened → Option values.Pairs
map_value x = constant_entries (entries_output false x.row) NoPairs

abbrev pub IsMap : Opened → values.Pairs → Type 0
IsMap x ps = IsRow false of_entries x.row × (map_value x ≡ Some ps)
