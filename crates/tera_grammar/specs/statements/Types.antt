-- The types of a component's arguments, and pairs in the order of their names.
use Rattle.std.specs.Prelude.{ℕ, Bool, true, false, List, [], ◌∷◌, Option, Some, None, map, if◌then◌else◌}
use Rattle.std.specs.Char.{to_ascii_lowercase}
use Rattle.std.specs.FinMap.Entries.{put}
use Rattle.std.specs.Cmp.Lexicographic.{slice_cmp}
use Rattle.std.specs.Ordering.{nat_cmp}
use Rattle.std.specs.Str.{bytes_eq}
use Rattle.tera_base.specs.Values as values
use Rattle.tera_base.specs.Values.{Val}
use Rattle.tera_tree.specs.declared.ast.ArgType.{ArgType}
use Rattle.tera_tree.specs.declared.ast.ArgType.TheVariants as types
-- the name of a type
pub use Rattle.tera_tree.specs.Types.{type_name}

abbrev pub type_among : List ArgType → List ℕ → Option ArgType
type_among [] name = None
type_among (t ∷ ts) name = if bytes_eq name (type_name t) then Some t else type_among ts name

-- the type of this name, whatever the case of its letters
abbrev pub type_named : List ℕ → Option ArgType
type_named name =
    type_among (types.String ∷ types.Bool ∷ types.Integer ∷ types.Number ∷ types.Array ∷ types.Map ∷ types.Bytes ∷ [])
    (map to_ascii_lowercase name)

-- the type of a value; a whole number of any kind is an integer
abbrev pub type_of : Val → Option ArgType
type_of (values.Truth b) = Some types.Bool
type_of (values.I64 n) = Some types.Integer
type_of (values.U64 n) = Some types.Integer
type_of (values.I128 n) = Some types.Integer
type_of (values.U128 n) = Some types.Integer
type_of (values.Text s) = Some types.String
type_of (values.Bytes s) = Some types.Bytes
type_of (values.Array vs) = Some types.Array
type_of (values.Map ps) = Some types.Map
type_of v = None

-- whether a value of one type is of another: an integer is a number
abbrev pub is_of_type : ArgType → Option ArgType → Bool
is_of_type types.String (Some types.String) = true
is_of_type types.Bool (Some types.Bool) = true
is_of_type types.Integer (Some types.Integer) = true
is_of_type types.Number (Some types.Integer) = true
is_of_type types.Array (Some types.Array) = true
is_of_type types.Map (Some types.Map) = true
is_of_type types.Bytes (Some types.Bytes) = true
is_of_type t u = false

-- whether a value is of a type
abbrev pub has_type : ArgType → Val → Bool
has_type t v = is_of_type t (type_of v)

-- pairs in the order of their names
abbrev pub Sorted : Type 0 → Type 0
Sorted X = List (List ℕ × X)

-- a pair in its place; it replaces one with the same name
abbrev pub put_name : {X : Type 0} → List ℕ → X → Sorted X → Sorted X
put_name name x pairs = put (slice_cmp nat_cmp) name x pairs
