-- Items of an array and entries of a map, one by one.
use Rattle.std.proofs.Common.{◌≡◌, List, ◌∷◌, refl}
use Rattle.tera_ast.specs.Tree.{Expr}
use Rattle.tera_ast.specs.View.{items_of, entries_of}
use Rattle.tera_ast.specs.declared.ast.ArrayEntryOf.{ArrayEntryOf}
use Rattle.tera_ast.specs.declared.ast.ArrayEntryOf.TheVariants as items
use Rattle.tera_ast.specs.declared.ast.MapEntryOf.{MapEntryOf}
use Rattle.tera_ast.specs.declared.ast.MapEntryOf.TheVariants as entries
use Rattle.tera_tree.specs.Parts.{ExpressionPart, in_item, parts_of_items, in_entry, parts_of_entries}

pub items_more : (e : ArrayEntryOf Expr) (es : List (ArrayEntryOf Expr)) → parts_of_items (items_of (e ∷ es)) ≡ ExpressionPart (in_item e) ∷ parts_of_items (items_of es)
items_more (items.Item e) es = refl
items_more (items.Spread e) es = refl

pub entries_more : (e : MapEntryOf Expr) (es : List (MapEntryOf Expr)) → parts_of_entries (entries_of (e ∷ es)) ≡ ExpressionPart (in_entry e) ∷ parts_of_entries (entries_of es)
entries_more (entries.KeyValue k e) es = refl
entries_more (entries.Spread e) es = refl
