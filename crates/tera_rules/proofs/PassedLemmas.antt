-- What a call passes, one by one.
use Rattle.std.proofs.Common.{◌≡◌, ◌∙◌, List, [], ◌∷◌, ◌++◌, length, ◌⊎◌, inl, inr, map, refl, ap, arith, append_assoc, append-nil, sym}
use Rattle.std.specs.List.{zip}
use Rattle.std.proofs.lemmas.List.{map-append}
use Rattle.tera_base.specs.ValueView.{key_view, value_view, pairs_view}
use Rattle.tera_base.specs.declared.utils.Span.{Span}
use Rattle.tera_base.specs.declared.values.Key.{Key}
use Rattle.tera_base.specs.declared.values.Value.{Value}
use Rattle.tera_ast.specs.View.{entries_of}
use Rattle.tera_ast.specs.Tree.{Expr}
use Rattle.tera_ast.specs.declared.ast.MapEntryOf.{MapEntryOf}
use Rattle.tera_ast.specs.declared.ast.MapEntryOf.TheVariants as entries
use Rattle.std.proofs.Common.{Some}
use Rattle.tera_rules.specs.Passed.{PassedVal, passed_view, under_key, by_pairs, passed_by, passed_by_one}
use Rattle.tera_rules.specs.declared.passed.Passed.{Passed}

pub passed_more : (ps : List Passed) (p : Passed) → map passed_view (ps ++ p ∷ []) ≡ map passed_view ps ++ (passed_view p ∷ [])
passed_more ps p = map-append passed_view ps (p ∷ [])

pub attribute_more : (e : MapEntryOf Expr) (es : List (MapEntryOf Expr)) → passed_by (entries_of (e ∷ es)) ≡ passed_by_one e ++ passed_by (entries_of es)
attribute_more (entries.KeyValue k e) es = refl
attribute_more (entries.Spread e) es = refl

-- a pair of a map that is gone along by its keys and its values
pub pair_more : (span : Span) (ks ms : List Key) (vs us : List Value) (k : Key) (v : Value) (before now all : List PassedVal)
    → all ≡ before ++ by_pairs span (pairs_view (zip ks vs)) → ks ≡ k ∷ ms → vs ≡ v ∷ us → now ≡ before ++ under_key (key_view k) span (Some (value_view v))
    → all ≡ now ++ by_pairs span (pairs_view (zip ms us))
pair_more span ks ms vs us k v before now all held a b step =
    let rest = by_pairs span (pairs_view (zip ms us)) in
    held ∙ rw (a, b) (sym (append_assoc before (under_key (key_view k) span (Some (value_view v))) rest) ∙ ap (λ ps. ps ++ rest) (sym step))

pub no_pairs : (ks : List Key) (vs : List Value) → (length ks ≡ 0) ⊎ (length vs ≡ 0) → zip ks vs ≡ []
no_pairs [] vs h = refl
no_pairs (k ∷ ks) [] h = refl
no_pairs (k ∷ ks) (v ∷ vs) (inl h) = absurd (omega arith)
no_pairs (k ∷ ks) (v ∷ vs) (inr h) = absurd (omega arith)

pub pairs_done : (span : Span) (ks : List Key) (vs : List Value) (now all : List PassedVal)
    → all ≡ now ++ by_pairs span (pairs_view (zip ks vs)) → (length ks ≡ 0) ⊎ (length vs ≡ 0) → now ≡ all
pairs_done span ks vs now all held h = sym (rw (no_pairs ks vs h) at held ∙ append-nil now)
