-- Keys and values side by side, as pairs.
use Rattle.std.proofs.Common.{◌≡◌, List, [], ◌∷◌, length, map, refl, sym, ap, ◌∙◌, arith}
use Rattle.std.specs.List.{AllZip}
use Rattle.std.proofs.lemmas.List.{length-map}
use Rattle.std.proofs.lemmas.Map.Entries.{length-values_of}
use Rattle.tera_base.specs.Values.{OnePair}
use Rattle.tera_base.specs.ValueView.{key_view, value_view, pairs_view}
use Rattle.tera_base.specs.declared.values.Key.{Key}
use Rattle.tera_base.specs.declared.values.Value.{Value}
use Rattle.std.specs.List.{zip}
use Rattle.std.specs.Map.{keys_of, values_of}
use Rattle.std.proofs.lemmas.Slice.Zip.{length-zip, seconds-zip}

pub rows_len : {K X : Type 0} (ks : List K) (vs : List X) (es : List (K × X)) → zip ks vs ≡ es → length vs ≡ length ks → length ks ≡ length es
rows_len ks vs es is same = let n : length (zip ks vs) ≡ length es = ap length is in omega (arith, length-zip ks vs, same, n)

pub values_of-zip : {K X : Type 0} (ks : List K) (vs : List X) → length vs ≡ length ks → values_of (zip ks vs) ≡ vs
values_of-zip ks vs same = seconds-zip ks vs same

pub zip_rows : {K X : Type 0} (es : List (K × X)) → zip (keys_of es) (values_of es) ≡ es
zip_rows [] = refl
zip_rows (e ∷ es) = ap (λ l. e ∷ l) (zip_rows es)

pub copied_keys : (ks ls : List Key) → AllZip (λ k l. key_view l ≡ key_view k) ks ls → map key_view ls ≡ map key_view ks
copied_keys [] [] h = refl
copied_keys [] (l ∷ ls) h = absurd h
copied_keys (k ∷ ks) [] h = absurd h
copied_keys (k ∷ ks) (l ∷ ls) h = rw (h.0, copied_keys ks ls h.1)

pub copied_len : (ks ls : List Key) → AllZip (λ k l. key_view l ≡ key_view k) ks ls → length ls ≡ length ks
copied_len ks ls h = let n = ap length (copied_keys ks ls h) in sym (length-map ls key_view) ∙ n ∙ length-map ks key_view

abbrev pub rest : {A : Type 0} → List A → List A
rest [] = []
rest (x ∷ xs) = xs

abbrev pub first : {A : Type 0} → A → List A → A
first d [] = d
first d (x ∷ xs) = x

-- pairs with the same keys and the same values
pub same_pairs : (ps qs : List (Key × Value)) → map key_view (keys_of ps) ≡ map key_view (keys_of qs) → map value_view (values_of ps) ≡ map value_view (values_of qs) → pairs_view ps ≡ pairs_view qs
same_pairs [] [] k v = refl
same_pairs [] (q ∷ qs) k v = let n : 0 ≡ length (map key_view (keys_of (q ∷ qs))) = ap length k in absurd (omega (arith, n))
same_pairs (p ∷ ps) [] k v = let n : length (map key_view (keys_of (p ∷ ps))) ≡ 0 = ap length k in absurd (omega (arith, n))
same_pairs (p ∷ ps) (q ∷ qs) k v =
    λ i. OnePair (ap (first (key_view p.0)) k i) (ap (first (value_view p.1)) v i) (same_pairs ps qs (ap rest k) (ap rest v) i)

pub copied_values : (vs : List Value) (ps : List (Key × Value)) → map value_view vs ≡ map value_view (values_of ps) → length vs ≡ length ps
copied_values vs ps e = sym (length-map vs value_view) ∙ ap length e ∙ length-map (values_of ps) value_view ∙ length-values_of ps
