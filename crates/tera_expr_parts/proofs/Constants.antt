-- Arrays of constants alone.
use Rattle.std.proofs.Common.{◌≡◌, Bool, true, false, ◌&&◌, List, [], ◌∷◌, map, Some, None, refl, sym, ap, ◌∙◌}
use Rattle.std.specs.List.{list_all, flat_map}
use Rattle.tera_base.specs.Values as values
use Rattle.tera_base.specs.Values.{Val}
use Rattle.tera_base.specs.ValueView.{vals_of}
use Rattle.tera_base.specs.declared.utils.Span.{Span}
use Rattle.tera_ast.specs.Tree as tree
use Rattle.tera_ast.specs.Tree.{Expr}
use Rattle.tera_ast.specs.View.{items_of, item_view, items_view}
use Rattle.tera_ast.specs.declared.ast.ArrayEntryOf.{ArrayEntryOf}
use Rattle.tera_ast.specs.declared.ast.ArrayEntryOf.TheVariants.{Item, Spread}
use Rattle.tera_ast.specs.declared.ast.Expression.{Expression}
use Rattle.tera_grammar.specs.expressions.Output.{with_value, constant_items, array_made, array_of}
use Rattle.tera_expr_parts.specs.Folding.{item_values, is_constant_item}

all_constant : (is : List (ArrayEntryOf Expr)) → list_all is_constant_item is ≡ true → constant_items (items_of is) ≡ Some (vals_of (flat_map item_values is))
all_constant [] h = refl
all_constant (Item (tree.Const x s) ∷ is) h = ap (with_value x) (all_constant is h)
all_constant (Item _ ∷ is) h = cc
all_constant (Spread e ∷ is) h = cc

some_other : (is : List (ArrayEntryOf Expr)) → list_all is_constant_item is ≡ false → constant_items (items_of is) ≡ None
some_other [] h = cc
some_other (Item (tree.Const x s) ∷ is) h = ap (with_value x) (some_other is h)
some_other (Item _ ∷ is) h = refl
some_other (Spread e ∷ is) h = refl

pub mapped_all : {X Y : Type 0} (test : Y → Bool) (g : X → Y) (xs : List X) → list_all test (map g xs) ≡ list_all (λ x. test (g x)) xs
mapped_all test g [] = refl
mapped_all test g (x ∷ xs) = ap (λ b. test (g x) && b) (mapped_all test g xs)

-- an array that was read, as a constant or as what it is
pub array_folds : (is : List (ArrayEntryOf Expression)) (xs : List Val) (span : Span) → list_all (λ i. is_constant_item (item_view i)) is ≡ true
    → xs ≡ flat_map item_values (map item_view is) → tree.Const (values.Array (vals_of xs)) span ≡ array_of (items_view is) span
array_folds is xs span all h =
    ap (λ ys. tree.Const (values.Array (vals_of ys)) span) h
    ∙ ap (array_made (items_view is) span) (sym (all_constant (map item_view is) (mapped_all is_constant_item item_view is ∙ all)))

pub array_stays : (is : List (ArrayEntryOf Expression)) (span : Span) → list_all (λ i. is_constant_item (item_view i)) is ≡ false
    → tree.Array (items_view is) span ≡ array_of (items_view is) span
array_stays is span other = ap (array_made (items_view is) span) (sym (some_other (map item_view is) (mapped_all is_constant_item item_view is ∙ other)))
