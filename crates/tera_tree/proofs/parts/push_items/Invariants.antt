use Rattle.std.proofs.Common.{◌≡◌, ◌++◌, drop}
use Rattle.tera_ast.specs.View.{items_view}
use Rattle.tera_tree.specs.Parts.{parts_view, parts_of_items}
use Rattle.tera_tree.proofs.parts.push_items.Given as goal

abbrev pub invariant-loop-item : goal.invariant-loop-item
invariant-loop-item l =
    parts_view l.initial.parts.items ++ parts_of_items (items_view l.item-items)
    ≡ parts_view l.parts.items ++ parts_of_items (items_view (drop l.item-index l.item-items))
