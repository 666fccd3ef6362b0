-- The text of a list, from its first element.
use Rattle.std.proofs.Common.{◌≡◌, ℕ, suc, Bool, true, List, [], ◌∷◌, ◌++◌, length, ap, Global, String, string_bytes, codes, refl, ◌∙◌, append_assoc}
use Rattle.tera_base.specs.Text.{comma_text}
use Rattle.tera_ast.specs.View.{expression_view, args_view, item_view, items_view, entry_view, entries_view, nodes_view}
use Rattle.tera_ast.specs.Text.{text, args_text, item_text, items_text, entry_text, entries_text, count_of}
use Rattle.tera_ast.specs.declared.ast.Expression.{Expression}
use Rattle.tera_ast.specs.declared.ast.Node.{Node}
use Rattle.tera_ast.specs.declared.ast.ArrayEntryOf.{ArrayEntryOf}
use Rattle.tera_ast.specs.declared.ast.ArrayEntryOf.TheVariants.{Item, Spread}
use Rattle.tera_ast.specs.declared.ast.MapEntryOf.{MapEntryOf}
use Rattle.tera_ast.specs.declared.ast.MapEntryOf.TheVariants as entries

abbrev pub Argument : Type 0
Argument = String Global × Expression

pub one_item : (later : Bool) (x : ArrayEntryOf Expression) (rest : List (ArrayEntryOf Expression)) → items_text later (items_view (x ∷ rest)) ≡ comma_text later ++ (item_text (item_view x) ++ items_text true (items_view rest))
one_item later (Item e) rest = refl
one_item later (Spread e) rest = refl

pub one_entry : (later : Bool) (x : MapEntryOf Expression) (rest : List (MapEntryOf Expression)) → entries_text later (entries_view (x ∷ rest)) ≡ comma_text later ++ (entry_text (entry_view x) ++ entries_text true (entries_view rest))
one_entry later (entries.KeyValue k e) rest = refl
one_entry later (entries.Spread e) rest = refl

pub one_arg : (all p : List ℕ) (later : Bool) (x : Argument) (es rest : List Argument) → all ≡ p ++ args_text later (args_view es) → es ≡ x ∷ rest
    → all ≡ (p ++ (comma_text later ++ (string_bytes x.0 ++ (codes "=" ++ text (expression_view x.1))))) ++ args_text true (args_view rest)
one_arg all p later x es rest start is = start ∙ rw is (simp append_assoc)

pub count_of_nodes_view : (ns : List Node) → length ns ≡ count_of (nodes_view ns)
count_of_nodes_view [] = refl
count_of_nodes_view (n ∷ ns) = ap suc (count_of_nodes_view ns)
