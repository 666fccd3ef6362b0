-- Two lists beside each other, and entries and items beside their first ones.
use Rattle.std.proofs.Common.{◌≡◌, ℕ, ◌+◌, ◌<◌, Bool, true, false, ◌&&◌, List, ◌∷◌, drop, length, get_or, refl, sym, ap, ◌∙◌}
use Rattle.std.proofs.lemmas.List.{at_drop_more}
use Rattle.tera_base.specs.Same.{key_eq}
use Rattle.tera_base.specs.ValueView.{key_view}
use Rattle.tera_ast.specs.View.{expression_view, entry_view, entries_view, item_view, items_view}
use Rattle.tera_ast.specs.Same.{expr_eq, entry_eq, entries_eq, item_eq, items_eq}
use Rattle.tera_ast.specs.declared.ast.Expression.{Expression}
use Rattle.tera_ast.specs.declared.ast.MapEntryOf.{MapEntryOf}
use Rattle.tera_ast.specs.declared.ast.MapEntryOf.TheVariants as entries
use Rattle.tera_ast.specs.declared.ast.ArrayEntryOf.{ArrayEntryOf}
use Rattle.tera_ast.specs.declared.ast.ArrayEntryOf.TheVariants as items

together : (a b r : Bool) → (a && (b && r)) ≡ ((a && b) && r)
together true b r = refl
together false b r = refl

abbrev pub alike_entries : List (MapEntryOf Expression) → List (MapEntryOf Expression) → Bool
alike_entries xs ys = entries_eq (entries_view xs) (entries_view ys)

abbrev pub alike_entry : MapEntryOf Expression → MapEntryOf Expression → Bool
alike_entry x y = entry_eq (entry_view x) (entry_view y)

abbrev pub alike_items : List (ArrayEntryOf Expression) → List (ArrayEntryOf Expression) → Bool
alike_items xs ys = items_eq (items_view xs) (items_view ys)

abbrev pub alike_item : ArrayEntryOf Expression → ArrayEntryOf Expression → Bool
alike_item x y = item_eq (item_view x) (item_view y)

-- lists are the same where their first ones and the others are
pub entries_first : (x y : MapEntryOf Expression) (xs ys : List (MapEntryOf Expression)) → alike_entries (x ∷ xs) (y ∷ ys) ≡ (alike_entry x y && alike_entries xs ys)
entries_first (entries.KeyValue k d) (entries.KeyValue l e) xs ys =
    together (key_eq (key_view k) (key_view l)) (expr_eq (expression_view d) (expression_view e)) (alike_entries xs ys)
entries_first (entries.KeyValue k d) (entries.Spread e) xs ys = refl
entries_first (entries.Spread d) (entries.KeyValue l e) xs ys = refl
entries_first (entries.Spread d) (entries.Spread e) xs ys = refl

pub items_first : (x y : ArrayEntryOf Expression) (xs ys : List (ArrayEntryOf Expression)) → alike_items (x ∷ xs) (y ∷ ys) ≡ (alike_item x y && alike_items xs ys)
items_first (items.Item d) (items.Item e) xs ys = refl
items_first (items.Item d) (items.Spread e) xs ys = refl
items_first (items.Spread d) (items.Item e) xs ys = refl
items_first (items.Spread d) (items.Spread e) xs ys = refl

-- one step of a walk along two lists
step_on : {X : Type 0} (F : List X → List X → Bool) (G : X → X → Bool) → ((x y : X) (xs ys : List X) → F (x ∷ xs) (y ∷ ys) ≡ (G x y && F xs ys))
    → (all r : Bool) (xs os ys : List X) (i : ℕ) (x y : X) → all ≡ F (drop i xs) os → i < length xs → x ≡ get_or xs i x → os ≡ y ∷ ys → r ≡ G x y
    → all ≡ (r && F (drop (i + 1) xs) ys)
step_on F G first all r xs os ys i x y so_far within x_is os_is same =
    so_far
    ∙ (ap (λ zs. F (drop i xs) zs) os_is
    ∙ (at_drop_more (λ zs. F zs (y ∷ ys)) xs i x within
    ∙ (ap (λ z. F (z ∷ drop (i + 1) xs) (y ∷ ys)) (sym x_is)
    ∙ (first x y (drop (i + 1) xs) ys ∙ ap (λ q. q && F (drop (i + 1) xs) ys) (sym same)))))

pub goes_on : {X : Type 0} (F : List X → List X → Bool) (G : X → X → Bool) → ((x y : X) (xs ys : List X) → F (x ∷ xs) (y ∷ ys) ≡ (G x y && F xs ys))
    → (all r : Bool) (xs os ys : List X) (i : ℕ) (x y : X) → all ≡ F (drop i xs) os → i < length xs → x ≡ get_or xs i x → os ≡ y ∷ ys → r ≡ G x y → r ≡ true
    → all ≡ F (drop (i + 1) xs) ys
goes_on F G first all r xs os ys i x y so_far within x_is os_is same holds =
    step_on F G first all r xs os ys i x y so_far within x_is os_is same ∙ ap (λ q. q && F (drop (i + 1) xs) ys) holds

pub differs : {X : Type 0} (F : List X → List X → Bool) (G : X → X → Bool) → ((x y : X) (xs ys : List X) → F (x ∷ xs) (y ∷ ys) ≡ (G x y && F xs ys))
    → (all r : Bool) (xs os ys : List X) (i : ℕ) (x y : X) → all ≡ F (drop i xs) os → i < length xs → x ≡ get_or xs i x → os ≡ y ∷ ys → r ≡ G x y → r ≡ false
    → false ≡ all
differs F G first all r xs os ys i x y so_far within x_is os_is same fails =
    sym (step_on F G first all r xs os ys i x y so_far within x_is os_is same ∙ ap (λ q. q && F (drop (i + 1) xs) ys) fails)
