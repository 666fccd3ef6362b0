use Rattle.std.proofs.Common.{◌≡◌, drop, ◌*◌, ◌+◌}
use Rattle.tera_ast.specs.View.{filters_view, args_view, entries_view, items_view, nodes_view}
use Rattle.tera_ast.specs.Same.{filters_eq, args_eq, entries_eq, items_eq, nodes_eq}
use Rattle.tera_ast.proofs.comparison.+same.Given as goal

-- two lists are the same where what is left of them is
abbrev pub invariant-same_filters-loop-x : goal.invariant-same_filters-loop-x
invariant-same_filters-loop-x l = filters_eq (filters_view l.a.items) (filters_view l.b.items) ≡ filters_eq (filters_view (drop l.x-index l.x-items)) (filters_view l.others.rest.now)

abbrev pub invariant-same_entries-loop-x : goal.invariant-same_entries-loop-x
invariant-same_entries-loop-x l = entries_eq (entries_view l.a.items) (entries_view l.b.items) ≡ entries_eq (entries_view (drop l.x-index l.x-items)) (entries_view l.others.rest.now)

abbrev pub invariant-same_items-loop-x : goal.invariant-same_items-loop-x
invariant-same_items-loop-x l = items_eq (items_view l.a.items) (items_view l.b.items) ≡ items_eq (items_view (drop l.x-index l.x-items)) (items_view l.others.rest.now)

abbrev pub invariant-same_nodes-loop-x : goal.invariant-same_nodes-loop-x
invariant-same_nodes-loop-x l = nodes_eq (nodes_view l.a.items) (nodes_view l.b.items) ≡ nodes_eq (nodes_view (drop l.x-index l.x-items)) (nodes_view l.others.rest.now)

abbrev pub invariant-same_args-loop-name : goal.invariant-same_args-loop-name
invariant-same_args-loop-name l = args_eq (args_view l.a.entries) (args_view l.b.entries) ≡ args_eq (args_view l.name-iterator) (args_view l.others)

-- each call goes to what is smaller, or to a function of a lower rank
abbrev pub decreases-same : goal.decreases-same
decreases-same l = 10 * goal.size-same l + 0

abbrev pub decreases-same_node : goal.decreases-same_node
decreases-same_node l = 10 * goal.size-same_node l + 1

abbrev pub decreases-same_maybe : goal.decreases-same_maybe
decreases-same_maybe l = 10 * goal.size-same_maybe l + 1

abbrev pub decreases-same_entry : goal.decreases-same_entry
decreases-same_entry l = 10 * goal.size-same_entry l + 1

abbrev pub decreases-same_item : goal.decreases-same_item
decreases-same_item l = 10 * goal.size-same_item l + 1

abbrev pub decreases-same_filters : goal.decreases-same_filters
decreases-same_filters l = 10 * goal.size-same_filters l + 2

abbrev pub decreases-same_args : goal.decreases-same_args
decreases-same_args l = 10 * goal.size-same_args l + 2

abbrev pub decreases-same_entries : goal.decreases-same_entries
decreases-same_entries l = 10 * goal.size-same_entries l + 2

abbrev pub decreases-same_items : goal.decreases-same_items
decreases-same_items l = 10 * goal.size-same_items l + 2

abbrev pub decreases-same_nodes : goal.decreases-same_nodes
decreases-same_nodes l = 10 * goal.size-same_nodes l + 2

abbrev pub decreases-same_block_set : goal.decreases-same_block_set
decreases-same_block_set l = 10 * goal.size-same_block_set l + 1

abbrev pub decreases-same_loop : goal.decreases-same_loop
decreases-same_loop l = 10 * goal.size-same_loop l + 1

abbrev pub decreases-same_choice : goal.decreases-same_choice
decreases-same_choice l = 10 * goal.size-same_choice l + 1

abbrev pub decreases-same_section : goal.decreases-same_section
decreases-same_section l = 10 * goal.size-same_section l + 1
