-- The parameters of components, as they are read.
use Rattle.std.specs.Prelude.{◌≡◌, Bool, List, [], map, Option, Some, None, String, string_bytes}
use Rattle.std.specs.BTreeMap.{BTreeMap}
use Rattle.std.specs.declared.alloc.Global.{Global}
use Rattle.tera_base.specs.ValueView.{value_view}
use Rattle.tera_base.specs.Values.{Val}
use Rattle.tera_base.specs.declared.utils.Span.{Span}
use Rattle.tera_base.specs.declared.values.Value.{Value}
use Rattle.tera_tree.specs.Definitions.{named_argument, named_value}
use Rattle.tera_tree.specs.Tree.{Argument}
use Rattle.tera_ast.specs.View.{name_view}
use Rattle.tera_tree.specs.View.{argument_view, default_view}
use Rattle.tera_tree.specs.declared.ast.ArgType.{ArgType}
use Rattle.tera_tree.specs.declared.ast.ComponentArgument.{ComponentArgument}
use Rattle.tera_grammar.specs.statements.Components as components
use Rattle.tera_grammar.specs.statements.Components.{Default, default_output, Annotation, Assigned, Parameter, argument_of, default_has_type, metadata_output, put_arguments, rest_of}
use Rattle.tera_grammar.specs.statements.Expressions.{LiteralMap}
use Rattle.tera_grammar.specs.Reads.{found, ◌>>=◌, Takes}
use Rattle.tera_grammar.specs.expressions.Concrete.{Name}
use Rattle.tera_grammar.specs.expressions.Marks.{RightParen}
use Rattle.tera_grammar.specs.expressions.Reading.Front.{takes}
use Rattle.tera_grammar.specs.statements.Reading.Components.{fresh_name}
use Rattle.tera_grammar.specs.statements.Places.{parameters_placed}
use Rattle.tera_grammar.specs.statements.Reading.Meeting.{Met, locate_all, nothing_located}
use Rattle.tera_grammar.specs.statements.Types.{Sorted, type_named, type_of}
use Rattle.tera_lexer.specs.grammar.Tokens.{Items}
use Rattle.tera_tags.specs.Known.{located_of}
use Rattle.tera_tags.specs.declared.parameters.Parameters.{Parameters}

-- the type that is written
abbrev pub type_written : Option Annotation → Option ArgType
type_written None = None
type_written (Some a) = type_named a.name.text

abbrev pub IsType : Option ArgType → Option Annotation → Type 0
IsType t a = t ≡ type_written a

-- a default
abbrev pub IsDefault : Value → Default → Type 0
IsDefault v d = value_view v ≡ default_output d

abbrev pub IsAssigned : Option Value → Option Assigned → Type 0
IsAssigned v d = default_view v ≡ components.default_of d

-- a parameter: its name and its argument
abbrev pub IsParameter : String Global × ComponentArgument → Parameter → Type 0
IsParameter p q = (string_bytes p.0 ≡ q.name.text) × (argument_view p.1 ≡ argument_of q)

abbrev pub arguments_view : List (String Global × ComponentArgument) → Sorted Argument
arguments_view es = map named_argument es

abbrev pub AreParameters : Parameters → components.Parameters → Type 0
AreParameters p ps = (arguments_view p.arguments.entries ≡ put_arguments ps []) × (name_view p.rest ≡ rest_of ps)

-- with where the names of all of them are
abbrev pub ArePlaced : Parameters × BTreeMap (String Global) Span → components.Parameters → Type 0
ArePlaced p ps = AreParameters p.0 ps × (located_of p.1 ≡ locate_all (parameters_placed ps) nothing_located)

-- an argument with the type that is written, or else that of the default
abbrev pub typed : Option ArgType → Option Val → Option ArgType
typed (Some t) d = Some t
typed None None = None
typed None (Some v) = type_of v

abbrev pub argument_as : Option ArgType → Option Val → Bool → Argument
argument_as t d implicit = record { default = d; typ = typed t d; implicit = implicit }

-- whether its default, if it is a value, is of its type
abbrev pub has_default : Argument → Bool
has_default a = default_has_type a.typ a.default

-- the name of the rest parameter, and the closing parenthesis
abbrev pub taken_rest : Met → Items → Takes Name
taken_rest seen items = fresh_name seen items >>= λ n. takes RightParen n.1 >>= λ end. found (n.0, end.1)

-- metadata
abbrev pub IsMetadata : List (String Global × Value) → Option LiteralMap → Type 0
IsMetadata es m = map named_value es ≡ metadata_output m
