-- The pairs of a map, from the first.
use Rattle.std.proofs.Common.{◌≡◌, ◌⊎◌, inl, inr, length, ℕ, ◌≤◌, List, [], ◌∷◌, ◌++◌, refl, ◌∙◌, append_assoc, arith}
use Rattle.std.specs.List.{zip}
use Rattle.std.specs.Map.{values_of}
use denote.Param.Weighed.{most}
use Rattle.json.specs.Json.{array, item, no_items}
use Rattle.json.specs.Token.{Token}
use Rattle.json.specs.Tree.{json_tokens, items_tokens}
use Rattle.tera_base.specs.ValueView.{key_view, value_view, pairs_view}
use Rattle.tera_base.specs.declared.values.Key.{Key}
use Rattle.tera_base.specs.declared.values.Value.{Value, size-Value}
use Rattle.tera_tree_json.specs.Constants.{key_json, value_json, pairs_json}

-- a value of a map is at most as deep as the map's values, nor are those after it
pub value_below : (ks ms : List Key) (vs us : List Value) (k : Key) (v : Value) (n : ℕ) → most size-Value (values_of (zip ks vs)) ≤ n → ks ≡ k ∷ ms → vs ≡ v ∷ us
    → (size-Value v ≤ n) × (most size-Value (values_of (zip ms us)) ≤ n)
value_below ks ms vs us k v n h a b =
    let below : most size-Value (values_of (zip (k ∷ ms) (v ∷ us))) ≤ n = rw (a, b) at h in (omega (arith, below), omega (arith, below))

pub no_pairs : (ks : List Key) (vs : List Value) → (length ks ≡ 0) ⊎ (length vs ≡ 0) → zip ks vs ≡ []
no_pairs [] vs h = refl
no_pairs (k ∷ ks) [] h = refl
no_pairs (k ∷ ks) (v ∷ vs) (inl h) = absurd (omega arith)
no_pairs (k ∷ ks) (v ∷ vs) (inr h) = absurd (omega arith)

-- one more pair of a map
pub one_pair : (all p : List Token) (ks ms : List Key) (vs us : List Value) (k : Key) (v : Value)
    → all ≡ p ++ items_tokens (pairs_json (pairs_view (zip ks vs))) → ks ≡ k ∷ ms → vs ≡ v ∷ us
    → all ≡ (p ++ json_tokens (array (item (key_json (key_view k)) (item (value_json (value_view v)) no_items)))) ++ items_tokens (pairs_json (pairs_view (zip ms us)))
one_pair all p ks ms vs us k v start a b = start ∙ rw (a, b) (simp append_assoc)
