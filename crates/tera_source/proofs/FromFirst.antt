-- Lists, from their first element.
use Rattle.std.proofs.Common.{◌≡◌, ◌⊎◌, inl, inr, length, ℕ, ◌≤◌, Bool, true, false, List, [], ◌∷◌, ◌++◌, codes, Global, String, refl, ◌∙◌, append_assoc, arith}
use Rattle.std.specs.List.{zip}
use Rattle.std.specs.Map.{values_of}
use denote.Param.Weighed.{most}
use Rattle.tera_base.specs.ValueView.{key_view, value_view, pairs_view}
use Rattle.tera_base.specs.declared.values.Key.{Key}
use Rattle.tera_base.specs.declared.values.Value.{Value, size-Value}
use Rattle.tera_ast.specs.View.{args_view}
use Rattle.tera_ast.specs.declared.ast.Expression.{Expression}
use Rattle.tera_source.specs.Writing.{comma_text, key_source, constant_text, pairs_text, has_args}

abbrev pub Argument : Type 0
Argument = String Global × Expression

-- one more pair of a map
pub one_pair : (all p : List ℕ) (later : Bool) (ks ms : List Key) (vs us : List Value) (k : Key) (v : Value)
    → all ≡ p ++ pairs_text later (pairs_view (zip ks vs)) → ks ≡ k ∷ ms → vs ≡ v ∷ us
    → all ≡ ((p ++ comma_text later) ++ (key_source (key_view k) ++ (codes " : " ++ constant_text (value_view v)))) ++ pairs_text true (pairs_view (zip ms us))
one_pair all p later ks ms vs us k v start a b = start ∙ rw (a, b) (simp append_assoc)

-- a value of a map is at most as deep as the map's values, nor are those after it
pub value_below : (ks ms : List Key) (vs us : List Value) (k : Key) (v : Value) (n : ℕ) → most size-Value (values_of (zip ks vs)) ≤ n → ks ≡ k ∷ ms → vs ≡ v ∷ us
    → (size-Value v ≤ n) × (most size-Value (values_of (zip ms us)) ≤ n)
value_below ks ms vs us k v n h a b =
    let below : most size-Value (values_of (zip (k ∷ ms) (v ∷ us))) ≤ n = rw (a, b) at h in (omega (arith, below), omega (arith, below))

pub no_pairs : (ks : List Key) (vs : List Value) → (length ks ≡ 0) ⊎ (length vs ≡ 0) → zip ks vs ≡ []
no_pairs [] vs h = refl
no_pairs (k ∷ ks) [] h = refl
no_pairs (k ∷ ks) (v ∷ vs) (inl h) = absurd (omega arith)
no_pairs (k ∷ ks) (v ∷ vs) (inr h) = absurd (omega arith)

-- whether there are arguments
pub has_none : (es : List Argument) → length es ≡ 0 → has_args (args_view es) ≡ false
has_none [] h = refl
has_none (a ∷ es) h = absurd (omega arith)

pub has_some : (es : List Argument) → (length es ≡ 0 → ⊥) → has_args (args_view es) ≡ true
has_some [] h = absurd (h refl)
has_some (a ∷ es) h = refl
