-- What a catalogue of components has of one.
use Rattle.std.specs.Prelude.{ℕ, List, Bool, ◌&&◌, not, map, Option, codes, string_bytes}
use Rattle.std.specs.Option.{option_map, is_some}
use Rattle.tera_base.specs.Values.{Val}
use Rattle.tera_tree.specs.Tree.{Argument, Definition}
use Rattle.tera_tree.specs.Definitions.{named_value}
use Rattle.tera_ast.specs.View.{name_view}
use Rattle.tera_tree.specs.View.{default_view}
use Rattle.tera_tree.specs.declared.ast.ArgType.{ArgType}
use Rattle.tera_tree.specs.declared.ast.ArgType.TheVariants as types
use Rattle.tera_tree.specs.declared.argument_infos.ComponentArgType.{ComponentArgType}
use Rattle.tera_tree.specs.declared.argument_infos.ComponentArgType.TheVariants as shown
use Rattle.tera_tree.specs.declared.argument_infos.ComponentArg.{ComponentArg}
use Rattle.tera_tree.specs.declared.infos.ComponentInfo.{ComponentInfo}

-- an argument: its name, default and type, and whether it is implicit
pub record ArgumentInfo : Type 0 where
  pub name : List ℕ
  pub default : Option Val
  pub typ : Option ComponentArgType
  pub implicit : Bool

-- a component: arguments and metadata in the byte order of their names
pub record Info : Type 0 where
  pub name : List ℕ
  pub arguments : List ArgumentInfo
  pub rest : Option (List ℕ)
  pub metadata : List (List ℕ × Val)

-- the type of the same name
abbrev pub shown_type : ArgType → ComponentArgType
shown_type types.String = shown.String
shown_type types.Bool = shown.Bool
shown_type types.Integer = shown.Integer
shown_type types.Number = shown.Number
shown_type types.Array = shown.Array
shown_type types.Map = shown.Map
shown_type types.Bytes = shown.Bytes

abbrev pub shown_type_name : ComponentArgType → List ℕ
shown_type_name shown.String = codes "string"
shown_type_name shown.Bool = codes "bool"
shown_type_name shown.Integer = codes "integer"
shown_type_name shown.Number = codes "number"
shown_type_name shown.Array = codes "array"
shown_type_name shown.Map = codes "map"
shown_type_name shown.Bytes = codes "bytes"

-- what is reported for an argument with its name, and of a definition
abbrev pub argument_info : List ℕ × Argument → ArgumentInfo
argument_info a = record { name = a.0; default = a.1.default; typ = option_map shown_type a.1.typ; implicit = a.1.implicit }

abbrev pub info_of : Definition → Info
info_of d = record { name = d.name; arguments = map argument_info d.arguments; rest = d.rest; metadata = d.metadata }

-- whether a call has to pass the argument: it is not found for the call, and has no default
abbrev pub is_required : ArgumentInfo → Bool
is_required a = not a.implicit && not (is_some a.default)

abbrev pub arg_view : ComponentArg → ArgumentInfo
arg_view a = record { name = string_bytes a.name; default = default_view a.default; typ = a.arg_type; implicit = a.implicit }

abbrev pub info_view : ComponentInfo → Info
info_view i = record {
  name = string_bytes i.name;
  arguments = map arg_view i.args.items;
  rest = name_view i.rest_param;
  metadata = map named_value i.metadata.entries;
}
