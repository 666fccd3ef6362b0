-- Definitions of components, and what templates are read as: the empty ones, and whether two are the same.
use Rattle.std.specs.Prelude.{ℕ, Bool, ◌&&◌, ◌==◌, List, [], None, String, string_bytes}
use Rattle.std.specs.declared.alloc.Global.{Global}
use Rattle.std.specs.Bool.{beq}
use Rattle.std.specs.Cmp.Lexicographic.{pointwise}
use Rattle.std.specs.Option.{option_eq}
use Rattle.std.specs.Str.{bytes_eq}
use Rattle.tera_base.specs.Same.{value_eq}
use Rattle.tera_base.specs.Values.{Val}
use Rattle.tera_base.specs.ValueView.{value_view}
use Rattle.tera_base.specs.declared.values.Value.{Value}
use Rattle.tera_ast.specs.Same.{stmt_eq}
use Rattle.tera_tree.specs.Tree.{Argument, Definition, Output}
use Rattle.tera_tree.specs.View.{argument_view}
use Rattle.tera_tree.specs.declared.ast.ComponentArgument.{ComponentArgument}
use Rattle.tera_tree.specs.declared.ast.ArgType.{ArgType}
use Rattle.tera_tree.specs.declared.ast.ArgType.TheVariants as types

abbrev pub empty_definition : Definition
empty_definition = record { name = []; arguments = []; rest = None; metadata = []; body = [] }

abbrev pub empty_output : Output
empty_output = record { parent = None; nodes = []; definitions = [] }

-- an argument and a value of the metadata, each with its name
abbrev pub named_argument : String Global × ComponentArgument → List ℕ × Argument
named_argument a = (string_bytes a.0, argument_view a.1)

abbrev pub named_value : String Global × Value → List ℕ × Val
named_value m = (string_bytes m.0, value_view m.1)

-- the place of a type among all
abbrev pub type_place : ArgType → ℕ
type_place types.String = 0
type_place types.Bool = 1
type_place types.Integer = 2
type_place types.Number = 3
type_place types.Array = 4
type_place types.Map = 5
type_place types.Bytes = 6

abbrev pub type_eq : ArgType → ArgType → Bool
type_eq t u = type_place t == type_place u

abbrev pub argument_eq : Argument → Argument → Bool
argument_eq a b = option_eq value_eq a.default b.default && (option_eq type_eq a.typ b.typ && beq a.implicit b.implicit)

abbrev pub named_argument_eq : List ℕ × Argument → List ℕ × Argument → Bool
named_argument_eq p q = bytes_eq p.0 q.0 && argument_eq p.1 q.1

abbrev pub named_value_eq : List ℕ × Val → List ℕ × Val → Bool
named_value_eq p q = bytes_eq p.0 q.0 && value_eq p.1 q.1

abbrev pub definition_eq : Definition → Definition → Bool
definition_eq d e =
    bytes_eq d.name e.name
    && (pointwise named_argument_eq d.arguments e.arguments
    && (option_eq bytes_eq d.rest e.rest && (pointwise named_value_eq d.metadata e.metadata && pointwise stmt_eq d.body e.body)))

abbrev pub output_eq : Output → Output → Bool
output_eq o p = option_eq bytes_eq o.parent p.parent && (pointwise stmt_eq o.nodes p.nodes && pointwise definition_eq o.definitions p.definitions)
