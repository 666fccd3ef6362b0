-- What two crates define, each in its own terms, agrees.
use Rattle.std.proofs.Common.{◌≡◌, cond, refl, ap}
use Rattle.tera_base.specs.Kinds.{kind_of}
use Rattle.tera_base.specs.Same.{key_eq}
use Rattle.tera_base.specs.Values as values
use Rattle.tera_base.specs.Values.{KeyVal, Val, Pairs, NoPairs, OnePair}
use Rattle.tera_tree.specs.Calls as calls
use Rattle.tera_tree.specs.Infos.{shown_type, shown_type_name}
use Rattle.tera_tree.specs.Types.{type_name, type_of_kind, is_of_type}
use Rattle.tera_tree.specs.declared.ast.ArgType.{ArgType}
use Rattle.tera_tree.specs.declared.ast.ArgType.TheVariants as types
use Rattle.tera_grammar.specs.expressions.Output.{put_pair}
use Rattle.tera_grammar.specs.statements.Types.{type_of, has_type}

-- a pair that is put into a map
pub pairs_same : (k : KeyVal) (v : Val) (ps : Pairs) → put_pair k v ps ≡ calls.put_pair k v ps
pairs_same k v NoPairs = refl
pairs_same k v (OnePair l w ps) =
    ap (λ more. cond (key_eq k l) (OnePair l v ps) (OnePair l w more)) (pairs_same k v ps)

-- the type of a value, by its form and by its kind
pub types_same : (v : Val) → type_of v ≡ type_of_kind (kind_of v)
types_same values.Undefined = refl
types_same values.Nothing = refl
types_same (values.Truth b) = refl
types_same (values.I64 n) = refl
types_same (values.U64 n) = refl
types_same (values.I128 n) = refl
types_same (values.U128 n) = refl
types_same (values.Text s) = refl
types_same (values.Bytes s) = refl
types_same (values.Array vs) = refl
types_same (values.Map ps) = refl

pub of_types_same : (t : ArgType) (v : Val) → has_type t v ≡ is_of_type t (kind_of v)
of_types_same types.String values.Undefined = refl
of_types_same types.String values.Nothing = refl
of_types_same types.String (values.Truth b) = refl
of_types_same types.String (values.I64 n) = refl
of_types_same types.String (values.U64 n) = refl
of_types_same types.String (values.I128 n) = refl
of_types_same types.String (values.U128 n) = refl
of_types_same types.String (values.Text s) = refl
of_types_same types.String (values.Bytes s) = refl
of_types_same types.String (values.Array vs) = refl
of_types_same types.String (values.Map ps) = refl
of_types_same types.Bool values.Undefined = refl
of_types_same types.Bool values.Nothing = refl
of_types_same types.Bool (values.Truth b) = refl
of_types_same types.Bool (values.I64 n) = refl
of_types_same types.Bool (values.U64 n) = refl
of_types_same types.Bool (values.I128 n) = refl
of_types_same types.Bool (values.U128 n) = refl
of_types_same types.Bool (values.Text s) = refl
of_types_same types.Bool (values.Bytes s) = refl
of_types_same types.Bool (values.Array vs) = refl
of_types_same types.Bool (values.Map ps) = refl
of_types_same types.Integer values.Undefined = refl
of_types_same types.Integer values.Nothing = refl
of_types_same types.Integer (values.Truth b) = refl
of_types_same types.Integer (values.I64 n) = refl
of_types_same types.Integer (values.U64 n) = refl
of_types_same types.Integer (values.I128 n) = refl
of_types_same types.Integer (values.U128 n) = refl
of_types_same types.Integer (values.Text s) = refl
of_types_same types.Integer (values.Bytes s) = refl
of_types_same types.Integer (values.Array vs) = refl
of_types_same types.Integer (values.Map ps) = refl
of_types_same types.Number values.Undefined = refl
of_types_same types.Number values.Nothing = refl
of_types_same types.Number (values.Truth b) = refl
of_types_same types.Number (values.I64 n) = refl
of_types_same types.Number (values.U64 n) = refl
of_types_same types.Number (values.I128 n) = refl
of_types_same types.Number (values.U128 n) = refl
of_types_same types.Number (values.Text s) = refl
of_types_same types.Number (values.Bytes s) = refl
of_types_same types.Number (values.Array vs) = refl
of_types_same types.Number (values.Map ps) = refl
of_types_same types.Array values.Undefined = refl
of_types_same types.Array values.Nothing = refl
of_types_same types.Array (values.Truth b) = refl
of_types_same types.Array (values.I64 n) = refl
of_types_same types.Array (values.U64 n) = refl
of_types_same types.Array (values.I128 n) = refl
of_types_same types.Array (values.U128 n) = refl
of_types_same types.Array (values.Text s) = refl
of_types_same types.Array (values.Bytes s) = refl
of_types_same types.Array (values.Array vs) = refl
of_types_same types.Array (values.Map ps) = refl
of_types_same types.Map values.Undefined = refl
of_types_same types.Map values.Nothing = refl
of_types_same types.Map (values.Truth b) = refl
of_types_same types.Map (values.I64 n) = refl
of_types_same types.Map (values.U64 n) = refl
of_types_same types.Map (values.I128 n) = refl
of_types_same types.Map (values.U128 n) = refl
of_types_same types.Map (values.Text s) = refl
of_types_same types.Map (values.Bytes s) = refl
of_types_same types.Map (values.Array vs) = refl
of_types_same types.Map (values.Map ps) = refl
of_types_same types.Bytes values.Undefined = refl
of_types_same types.Bytes values.Nothing = refl
of_types_same types.Bytes (values.Truth b) = refl
of_types_same types.Bytes (values.I64 n) = refl
of_types_same types.Bytes (values.U64 n) = refl
of_types_same types.Bytes (values.I128 n) = refl
of_types_same types.Bytes (values.U128 n) = refl
of_types_same types.Bytes (values.Text s) = refl
of_types_same types.Bytes (values.Bytes s) = refl
of_types_same types.Bytes (values.Array vs) = refl
of_types_same types.Bytes (values.Map ps) = refl

pub names_same : (t : ArgType) → shown_type_name (shown_type t) ≡ type_name t
names_same types.String = refl
names_same types.Bool = refl
names_same types.Integer = refl
names_same types.Number = refl
names_same types.Array = refl
names_same types.Map = refl
names_same types.Bytes = refl
