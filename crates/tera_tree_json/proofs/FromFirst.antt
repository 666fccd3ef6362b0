-- Lists, from their first element.
use Rattle.std.proofs.Common.{◌≡◌, ℕ, ◌+◌, ◌<◌, List, ◌∷◌, ◌++◌, length, get_or, drop, refl, sym, ap, ◌∙◌, append_assoc}
use Rattle.std.proofs.lemmas.List.{at_drop_more}
use Rattle.json.specs.Token.{Token}
use Rattle.json.specs.Tree.{json_tokens, items_tokens}
use Rattle.tera_ast.specs.View.{item_view, items_view, entry_view, entries_view}
use Rattle.tera_ast.specs.declared.ast.Expression.{Expression}
use Rattle.tera_ast.specs.declared.ast.ArrayEntryOf.{ArrayEntryOf}
use Rattle.tera_ast.specs.declared.ast.ArrayEntryOf.TheVariants.{Item, Spread}
use Rattle.tera_ast.specs.declared.ast.MapEntryOf.{MapEntryOf}
use Rattle.tera_ast.specs.declared.ast.MapEntryOf.TheVariants as entries
use Rattle.tera_tree_json.specs.TreeJson.{item_json, items_json, entry_json, entries_json}

abbrev pub items_row : List (ArrayEntryOf Expression) → List Token
items_row xs = items_tokens (items_json (items_view xs))

pub one_item : (x : ArrayEntryOf Expression) (rest : List (ArrayEntryOf Expression)) → items_row (x ∷ rest) ≡ json_tokens (item_json (item_view x)) ++ items_row rest
one_item (Item e) rest = refl
one_item (Spread e) rest = refl

abbrev pub entries_row : List (MapEntryOf Expression) → List Token
entries_row xs = items_tokens (entries_json (entries_view xs))

pub one_entry : (x : MapEntryOf Expression) (rest : List (MapEntryOf Expression)) → entries_row (x ∷ rest) ≡ json_tokens (entry_json (entry_view x)) ++ entries_row rest
one_entry (entries.KeyValue k e) rest = refl
one_entry (entries.Spread e) rest = refl

-- one element more of a row, whose tokens are t
pub row_more : {X : Type 0} (T : List X → List Token) (all p t : List Token) (xs : List X) (i : ℕ) (x : X)
    → all ≡ p ++ T (drop i xs) → i < length xs → x ≡ get_or xs i x → T (x ∷ drop (i + 1) xs) ≡ t ++ T (drop (i + 1) xs)
    → all ≡ (p ++ t) ++ T (drop (i + 1) xs)
row_more T all p t xs i x start within at one =
    start ∙ ap (λ r. p ++ r) (at_drop_more T xs i x within ∙ ap (λ y. T (y ∷ drop (i + 1) xs)) (sym at) ∙ one)
    ∙ sym (append_assoc p t (T (drop (i + 1) xs)))
