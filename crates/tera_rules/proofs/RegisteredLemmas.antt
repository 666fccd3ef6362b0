-- One more name of a list.
use Rattle.std.proofs.Common.{◌≡◌, ◌∙◌, ◌<◌, ◌+◌, ℕ, List, [], ◌∷◌, ◌++◌, Bool, true, false, Bor, String, cond, get_or, length, map, take, string_bytes, refl, ap, sym}
use Rattle.std.specs.Prelude.{◌||◌}
use Rattle.std.specs.BTreeSet.{BTreeSet, UpdatesBy}
use Rattle.std.specs.Cmp.Lexicographic.{slice_cmp}
use Rattle.std.specs.List.{list_any}
use Rattle.std.specs.Ordering.{nat_cmp}
use Rattle.std.specs.Str.{bytes_eq}
use Rattle.std.specs.declared.alloc.Global.{Global}
use Rattle.std.proofs.lemmas.List.{map_push, take_more}
use Rattle.std.proofs.lemmas.List.Folds.{list_any-append}
use Rattle.std.proofs.lemmas.Map.Text.{is_eq-slice_cmp}
use Rattle.tera_rules.specs.Registered.{has_name}

or_false : (b : Bool) → (b || false) ≡ b
or_false true = refl
or_false false = refl

either : (b c : Bool) → cond b true c ≡ (c || b)
either true true = refl
either true false = refl
either false true = refl
either false false = refl

-- a set after a name was put into it
pub put_now : (key : Bor (List ℕ)) (s t : BTreeSet (Bor (List ℕ))) → UpdatesBy (λ x y. slice_cmp nat_cmp x.now y.now) (λ k. slice_cmp nat_cmp key.now k.now) s t true
    → (n : List ℕ) → has_name t n ≡ (has_name s n || bytes_eq key.now n)
put_now key s t h n =
    h.0 (record { ref_ptr = (0, 0); now = n }) ∙ ap (λ b. cond b true (has_name s n)) (is_eq-slice_cmp key.now n) ∙ either (bytes_eq key.now n) (has_name s n)

-- the names of a list up to one more
pub one_more : (names : List (String Global)) (at : ℕ) (name : String Global) (n : List ℕ) (old now : Bool) → at < length names → get_or names at name ≡ name
    → old ≡ list_any (λ name. bytes_eq name n) (map string_bytes (take at names)) → now ≡ (old || bytes_eq (string_bytes name) n)
    → now ≡ list_any (λ name. bytes_eq name n) (map string_bytes (take (at + 1) names))
one_more names at name n old now inside is was next =
    let test : List ℕ → Bool = λ name. bytes_eq name n in
    let before = map string_bytes (take at names) in
    next ∙ ap (λ b. b || test (string_bytes name)) was
    ∙ sym (ap (λ ns. list_any test (map string_bytes ns)) (take_more names at name inside ∙ ap (λ x. take at names ++ x ∷ []) is)
    ∙ ap (list_any test) (map_push string_bytes (take at names) name)
    ∙ list_any-append test before (string_bytes name ∷ []) ∙ ap (λ b. list_any test before || b) (or_false (test (string_bytes name))))
