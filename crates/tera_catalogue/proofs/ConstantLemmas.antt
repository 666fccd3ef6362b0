-- Constants of a map, one by one.
use Rattle.std.proofs.Common.{◌≡◌, ◌∙◌, ◌⊎◌, inl, inr, List, [], ◌∷◌, ◌++◌, length, refl, sym, ap, append_assoc, append-nil, arith}
use Rattle.std.specs.List.{zip}
use Rattle.json.specs.Token.{Token, key}
use Rattle.tera_base.specs.Text.{key_text}
use Rattle.tera_base.specs.ValueView.{key_view, value_view, pairs_view}
use Rattle.tera_base.specs.declared.values.Key.{Key}
use Rattle.tera_base.specs.declared.values.Value.{Value}
use Rattle.tera_catalogue.specs.Constants.{constant, members_of}

-- a pair of a map that is gone along by its keys and its values
pub member_more : (ks ms : List Key) (vs us : List Value) (k : Key) (v : Value) (before named now all : List Token)
    → all ≡ before ++ members_of (pairs_view (zip ks vs)) → ks ≡ k ∷ ms → vs ≡ v ∷ us
    → named ≡ before ++ key (key_text (key_view k)) ∷ [] → now ≡ named ++ constant (value_view v)
    → all ≡ now ++ members_of (pairs_view (zip ms us))
member_more ks ms vs us k v before named now all held a b first second =
    let rest = members_of (pairs_view (zip ms us)) in
    held ∙ rw (a, b) (sym (
    ap (λ ts. ts ++ rest) (second ∙ ap (λ ts. ts ++ constant (value_view v)) first)
    ∙ append_assoc (before ++ key (key_text (key_view k)) ∷ []) (constant (value_view v)) rest
    ∙ append_assoc before (key (key_text (key_view k)) ∷ []) (constant (value_view v) ++ rest)))

no_pairs : (ks : List Key) (vs : List Value) → (length ks ≡ 0) ⊎ (length vs ≡ 0) → zip ks vs ≡ []
no_pairs [] vs h = refl
no_pairs (k ∷ ks) [] h = refl
no_pairs (k ∷ ks) (v ∷ vs) (inl h) = absurd (omega arith)
no_pairs (k ∷ ks) (v ∷ vs) (inr h) = absurd (omega arith)

pub members_done : (ks : List Key) (vs : List Value) (now all : List Token)
    → all ≡ now ++ members_of (pairs_view (zip ks vs)) → (length ks ≡ 0) ⊎ (length vs ≡ 0) → now ≡ all
members_done ks vs now all held h = sym (rw (no_pairs ks vs h) at held ∙ append-nil now)
