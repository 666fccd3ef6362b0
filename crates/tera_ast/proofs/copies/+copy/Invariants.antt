use Rattle.std.proofs.Common.{◌≡◌, List, ◌++◌, take, map, ◌*◌, ◌+◌}
use Rattle.tera_ast.specs.View.{expression_view, node_view, args_view, item_view, keyed_view}
use Rattle.tera_ast.proofs.Texts.{Argument}
use Rattle.tera_ast.proofs.copies.+copy.Given as goal

abbrev pub invariant-copy_args-loop-name : goal.invariant-copy_args-loop-name
invariant-copy_args-loop-name l =
    (done : List Argument) × (l.args.entries ≡ done ++ l.name-iterator) × (args_view l.copies.entries ≡ args_view done)

abbrev pub invariant-copy_items-loop-item : goal.invariant-copy_items-loop-item
invariant-copy_items-loop-item l = map item_view l.copies.items ≡ map item_view (take l.item-index l.item-items)

abbrev pub invariant-copy_filters-loop-filter : goal.invariant-copy_filters-loop-filter
invariant-copy_filters-loop-filter l = map expression_view l.copies.items ≡ map expression_view (take l.filter-index l.filter-items)

abbrev pub invariant-copy_entries-loop-entry : goal.invariant-copy_entries-loop-entry
invariant-copy_entries-loop-entry l = map keyed_view l.copies.items ≡ map keyed_view (take l.entry-index l.entry-items)

abbrev pub invariant-copy_nodes-loop-node : goal.invariant-copy_nodes-loop-node
invariant-copy_nodes-loop-node l = map node_view l.copies.items ≡ map node_view (take l.node-index l.node-items)

abbrev pub decreases-copy : goal.decreases-copy
decreases-copy l = 10 * goal.size-copy l + 0

abbrev pub decreases-copy_node : goal.decreases-copy_node
decreases-copy_node l = 10 * goal.size-copy_node l + 1

abbrev pub decreases-copy_maybe : goal.decreases-copy_maybe
decreases-copy_maybe l = 10 * goal.size-copy_maybe l + 1

abbrev pub decreases-copy_args : goal.decreases-copy_args
decreases-copy_args l = 10 * goal.size-copy_args l + 2

abbrev pub decreases-copy_items : goal.decreases-copy_items
decreases-copy_items l = 10 * goal.size-copy_items l + 2

abbrev pub decreases-copy_filters : goal.decreases-copy_filters
decreases-copy_filters l = 10 * goal.size-copy_filters l + 2

abbrev pub decreases-copy_entries : goal.decreases-copy_entries
decreases-copy_entries l = 10 * goal.size-copy_entries l + 2

abbrev pub decreases-copy_nodes : goal.decreases-copy_nodes
decreases-copy_nodes l = 10 * goal.size-copy_nodes l + 2

abbrev pub decreases-copy_attributes : goal.decreases-copy_attributes
decreases-copy_attributes l = 10 * goal.size-copy_attributes l + 3

abbrev pub decreases-copy_block_set : goal.decreases-copy_block_set
decreases-copy_block_set l = 10 * goal.size-copy_block_set l + 1

abbrev pub decreases-copy_loop : goal.decreases-copy_loop
decreases-copy_loop l = 10 * goal.size-copy_loop l + 1

abbrev pub decreases-copy_choice : goal.decreases-copy_choice
decreases-copy_choice l = 10 * goal.size-copy_choice l + 1

abbrev pub decreases-copy_section : goal.decreases-copy_section
decreases-copy_section l = 10 * goal.size-copy_section l + 1
