-- Arrays as they are written.
use Rattle.std.proofs.Common.{◌≡◌, ◌∙◌, List, [], ◌∷◌, ◌++◌, map, refl, ap, sym, append_assoc}
use Rattle.std.specs.List.{flat_map}
use Rattle.std.proofs.lemmas.List.Folds.{flat_map-map}
use Rattle.json.specs.Json.{Json, array}
use Rattle.json.specs.Token.{Token, begin_array, end_array}
use Rattle.json.specs.Tree.{json_tokens, items_tokens}
use Rattle.json.specs.Value.{items_of}

-- the items of an array and its end
pub array_written : (js : List Json) → items_tokens (items_of js) ≡ flat_map json_tokens js ++ end_array ∷ []
array_written [] = refl
array_written (j ∷ js) =
    ap (λ ts. json_tokens j ++ ts) (array_written js) ∙ sym (append_assoc (json_tokens j) (flat_map json_tokens js) (end_array ∷ []))

-- .. after what was written before
pub array_closed : (js : List Json) (start opened filled closed : List Token) → opened ≡ start ++ begin_array ∷ [] → filled ≡ opened ++ flat_map json_tokens js → closed ≡ filled ++ end_array ∷ []
    → closed ≡ start ++ json_tokens (array (items_of js))
array_closed js start opened filled closed o f c = rw (c, f, o, array_written js) (simp append_assoc refl)

pub items_written : {A : Type 0} (f : A → Json) (xs : List A) → items_tokens (items_of (map f xs)) ≡ flat_map (λ x. json_tokens (f x)) xs ++ end_array ∷ []
items_written f xs = array_written (map f xs) ∙ ap (λ ts. ts ++ end_array ∷ []) (flat_map-map json_tokens f xs)
