-- The types of arguments, by their names.
use Rattle.std.proofs.Common.{◌≡◌, ℕ, false, List, [], ◌∷◌, map, None, refl, ◌∙◌}
use Rattle.std.specs.Char.{to_ascii_lowercase}
use Rattle.std.specs.Str.{bytes_eq}
use Rattle.tera_tree.specs.Types as tree_types
use Rattle.tera_tree.specs.declared.ast.ArgType.{ArgType}
use Rattle.tera_tree.specs.declared.ast.ArgType.TheVariants as types
use Rattle.tera_grammar.specs.statements.Types.{type_among, type_name, type_named}
use Rattle.tera_grammar.proofs.Options.{bytes_apart}

-- the name of a type is that of no other
other_type : (name : List ℕ) (t : ArgType) (ts : List ArgType) → bytes_eq name (type_name t) ≡ false → type_among (t ∷ ts) name ≡ type_among ts name
other_type name t ts h = rw h refl

abbrev all_types : List ArgType
all_types = types.String ∷ types.Bool ∷ types.Integer ∷ types.Number ∷ types.Array ∷ types.Map ∷ types.Bytes ∷ []

missing : (lower : List ℕ) → ((t : ArgType) → lower ≡ tree_types.type_name t → ⊥) → type_among all_types lower ≡ None
missing lower none =
    other_type lower types.String (types.Bool ∷ types.Integer ∷ types.Number ∷ types.Array ∷ types.Map ∷ types.Bytes ∷ []) (bytes_apart lower (type_name types.String) (none types.String))
    ∙ other_type lower types.Bool (types.Integer ∷ types.Number ∷ types.Array ∷ types.Map ∷ types.Bytes ∷ []) (bytes_apart lower (type_name types.Bool) (none types.Bool))
    ∙ other_type lower types.Integer (types.Number ∷ types.Array ∷ types.Map ∷ types.Bytes ∷ []) (bytes_apart lower (type_name types.Integer) (none types.Integer))
    ∙ other_type lower types.Number (types.Array ∷ types.Map ∷ types.Bytes ∷ []) (bytes_apart lower (type_name types.Number) (none types.Number))
    ∙ other_type lower types.Array (types.Map ∷ types.Bytes ∷ []) (bytes_apart lower (type_name types.Array) (none types.Array))
    ∙ other_type lower types.Map (types.Bytes ∷ []) (bytes_apart lower (type_name types.Map) (none types.Map))
    ∙ other_type lower types.Bytes ([]) (bytes_apart lower (type_name types.Bytes) (none types.Bytes))

pub type_missing : (name : List ℕ) → ((t : ArgType) → map to_ascii_lowercase name ≡ tree_types.type_name t → ⊥) → type_named name ≡ None
type_missing name none = missing (map to_ascii_lowercase name) none
