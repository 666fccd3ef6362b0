-- Kinds of values and their names.
use Rattle.std.specs.Prelude.{ℕ, List, Bool, true, false, codes}
use Rattle.tera_base.specs.Values as values
use Rattle.tera_base.specs.Values.{Val}
use Rattle.tera_base.specs.declared.kinds.ValueKind.{ValueKind}
use Rattle.tera_base.specs.declared.kinds.ValueKind.TheVariants as kinds

abbrev pub kind_of : Val → ValueKind
kind_of values.Undefined = kinds.Undefined
kind_of values.Nothing = kinds.None
kind_of (values.Truth b) = kinds.Bool
kind_of (values.I64 n) = kinds.I64
kind_of (values.U64 n) = kinds.U64
kind_of (values.I128 n) = kinds.I128
kind_of (values.U128 n) = kinds.U128
kind_of (values.Text s) = kinds.String
kind_of (values.Bytes b) = kinds.Bytes
kind_of (values.Array vs) = kinds.Array
kind_of (values.Map ps) = kinds.Map

abbrev pub kind_name : ValueKind → List ℕ
kind_name kinds.Undefined = codes "undefined"
kind_name kinds.None = codes "none"
kind_name kinds.Bool = codes "bool"
kind_name kinds.I64 = codes "i64"
kind_name kinds.U64 = codes "u64"
kind_name kinds.I128 = codes "i128"
kind_name kinds.U128 = codes "u128"
kind_name kinds.String = codes "string"
kind_name kinds.Bytes = codes "bytes"
kind_name kinds.Array = codes "array"
kind_name kinds.Map = codes "map"

-- the four kinds of whole numbers
abbrev pub is_whole_number : ValueKind → Bool
is_whole_number kinds.I64 = true
is_whole_number kinds.U64 = true
is_whole_number kinds.I128 = true
is_whole_number kinds.U128 = true
is_whole_number _ = false
