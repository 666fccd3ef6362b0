-- The pairs of a map, by their keys.
use Rattle.std.specs.Prelude.{Bool, List, [], ◌∷◌, Option, None, Some, if◌then◌else◌}
use Rattle.tera_base.specs.Same.{key_eq}
use Rattle.tera_base.specs.ValueView.{key_view}
use Rattle.tera_base.specs.declared.values.Key.{Key}

-- whether two keys mean the same
abbrev pub same_key : Key → Key → Bool
same_key k l = key_eq (key_view k) (key_view l)

-- the pairs with v put at k: a key that is there keeps its place and takes the value, a new one goes last
abbrev pub put : {V : Type 0} → Key → V → List (Key × V) → List (Key × V)
put k v [] = (k, v) ∷ []
put k v (p ∷ ps) = if same_key k p.0 then (p.0, v) ∷ ps else p ∷ put k v ps

-- what belongs to k
abbrev pub value_at : {V : Type 0} → Key → List (Key × V) → Option V
value_at k [] = None
value_at k (p ∷ ps) = if same_key k p.0 then Some p.1 else value_at k ps
