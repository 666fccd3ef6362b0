-- The types of the arguments of a component.
use Rattle.std.specs.Prelude.{ℕ, List, ◌++◌, Bool, true, false, Option, None, Some, codes}
use Rattle.tera_base.specs.Kinds.{is_whole_number}
use Rattle.tera_base.specs.declared.kinds.ValueKind.{ValueKind}
use Rattle.tera_base.specs.declared.kinds.ValueKind.TheVariants as kinds
use Rattle.tera_tree.specs.declared.ast.ArgType.{ArgType}
use Rattle.tera_tree.specs.declared.ast.ArgType.TheVariants as types

abbrev pub type_name : ArgType → List ℕ
type_name types.String = codes "string"
type_name types.Bool = codes "bool"
type_name types.Integer = codes "integer"
type_name types.Number = codes "number"
type_name types.Array = codes "array"
type_name types.Map = codes "map"
type_name types.Bytes = codes "bytes"

-- the type of the values of a kind: whole numbers are integers, and no value has no type
abbrev pub type_of_kind : ValueKind → Option ArgType
type_of_kind kinds.Undefined = None
type_of_kind kinds.None = None
type_of_kind kinds.Bool = Some types.Bool
type_of_kind kinds.I64 = Some types.Integer
type_of_kind kinds.U64 = Some types.Integer
type_of_kind kinds.I128 = Some types.Integer
type_of_kind kinds.U128 = Some types.Integer
type_of_kind kinds.String = Some types.String
type_of_kind kinds.Bytes = Some types.Bytes
type_of_kind kinds.Array = Some types.Array
type_of_kind kinds.Map = Some types.Map

-- whether values of a kind are of a type
abbrev pub is_of_type : ArgType → ValueKind → Bool
is_of_type types.String kinds.String = true
is_of_type types.Bool kinds.Bool = true
is_of_type types.Integer kind = is_whole_number kind
is_of_type types.Number kind = is_whole_number kind
is_of_type types.Array kinds.Array = true
is_of_type types.Map kinds.Map = true
is_of_type types.Bytes kinds.Bytes = true
is_of_type _ _ = false

-- the refusal of a name that is not a type's
abbrev pub no_type_text : List ℕ → List ℕ
no_type_text name = codes "Found " ++ (name ++ codes " but the only types allowed are: string, bool, integer, number, array, map and bytes")
