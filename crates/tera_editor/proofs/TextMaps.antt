-- What a map has under names that are texts, after a change under one of them.
use Rattle.std.proofs.Common.{◌≡◌, ◌∙◌, ℕ, List, Bool, true, false, cond, Option, String, string_bytes, refl, ap}
use Rattle.std.specs.BTreeMap as tree
use Rattle.std.specs.BTreeMap.{BTreeMap, get_by_text}
use Rattle.std.specs.Cmp.Lexicographic.{slice_cmp}
use Rattle.std.specs.Option.{option_map}
use Rattle.std.specs.Ordering.{nat_cmp}
use Rattle.std.specs.Str.{bytes_eq}
use Rattle.std.specs.String.{string_cmp}
use Rattle.std.specs.declared.alloc.Global.{Global}
use Rattle.std.proofs.lemmas.Map.Text.{btree_map_updates_text}

abbrev pub Updates : {X : Type 0} → List ℕ → BTreeMap (String Global) X → BTreeMap (String Global) X → Option X → Type 0
Updates name m n w = tree.UpdatesBy string_cmp (λ k. slice_cmp nat_cmp name (string_bytes k)) m n w

map_cond : {X Y : Type 0} (f : X → Y) (b : Bool) (o p : Option X) → option_map f (cond b o p) ≡ cond b (option_map f o) (option_map f p)
map_cond f true o p = refl
map_cond f false o p = refl

-- of each name, as it is seen
pub seen_after : {X Y : Type 0} (f : X → Y) (name : List ℕ) (m n : BTreeMap (String Global) X) (w : Option X) → Updates name m n w
    → (q : List ℕ) → option_map f (get_by_text n q) ≡ cond (bytes_eq name q) (option_map f w) (option_map f (get_by_text m q))
seen_after f name m n w h q = ap (option_map f) (btree_map_updates_text name m n w h q) ∙ map_cond f (bytes_eq name q) w (get_by_text m q)
