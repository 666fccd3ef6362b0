-- One more item of a list that is being shown.
use Rattle.std.proofs.Common.{◌≡◌, ℕ, ◌+◌, ◌<◌, Bool, true, List, ◌∷◌, ◌++◌, length, get_or, drop, codes, sym, ap, ◌∙◌, append_assoc, arith}
use Rattle.std.specs.List.{zip}
use Rattle.std.proofs.lemmas.List.{length-drop}
use Rattle.tera_base.specs.ValueView.{key_view, value_view, pairs_view}
use Rattle.tera_base.specs.Text.{inner_text, inner_key_text, pairs_text, comma_text}
use Rattle.tera_base.specs.declared.values.Key.{Key}
use Rattle.tera_base.specs.declared.values.Value.{Value}
use Rattle.std.proofs.lemmas.List.{at_drop_more}

-- what is left of the text of a list, by T, is the text c ++ t of its first item and then that of the others, by U
pub shown_more : {X : Type 0} (T U : List X → List ℕ) (all p c t : List ℕ) (xs : List X) (i : ℕ) (x : X)
    → all ≡ p ++ T (drop i xs) → i < length xs → x ≡ get_or xs i x → T (x ∷ drop (i + 1) xs) ≡ c ++ (t ++ U (drop (i + 1) xs))
    → all ≡ (p ++ (c ++ t)) ++ U (drop (i + 1) xs)
shown_more T U all p c t xs i x start within at one =
    start ∙ ap (λ r. p ++ r) (at_drop_more T xs i x within ∙ ap (λ y. T (y ∷ drop (i + 1) xs)) (sym at) ∙ one) ∙ simp append_assoc

-- one more pair of a map that is being shown
pub one_pair : (later : Bool) (all p : List ℕ) (ks : List Key) (vs : List Value) (i : ℕ) (k : Key) (rest : List Key) (v : Value)
    → all ≡ p ++ pairs_text later (pairs_view (zip ks (drop i vs))) → ks ≡ k ∷ rest → i < length vs → v ≡ get_or vs i v
    → all ≡ (p ++ (comma_text later ++ (inner_key_text (key_view k) ++ (codes ": " ++ inner_text (value_view v))))) ++ pairs_text true (pairs_view (zip rest (drop (i + 1) vs)))
one_pair later all p ks vs i k rest v start is within at =
    start ∙ ap (λ r. p ++ pairs_text later (pairs_view (zip r (drop i vs)))) is
    ∙ ap (λ r. p ++ r) (at_drop_more (λ ys. pairs_text later (pairs_view (zip (k ∷ rest) ys))) vs i v within ∙ ap (λ y. pairs_text later (pairs_view (zip (k ∷ rest) (y ∷ drop (i + 1) vs)))) (sym at))
    ∙ simp append_assoc

pub one_less : (ks : List Key) (vs : List Value) (i : ℕ) (k : Key) (rest : List Key) → length ks ≡ length (drop i vs) → ks ≡ k ∷ rest → length rest ≡ length (drop (i + 1) vs)
one_less ks vs i k rest same is = let n : length ks ≡ length (k ∷ rest) = ap length is in omega (arith, length-drop i vs, length-drop (i + 1) vs, same, n)
