use Rattle.std.proofs.Common.{◌≡◌, ◌++◌, drop, ◌*◌, ◌+◌, ◌≤◌}
use Rattle.json.specs.Tree.{items_tokens, members_tokens}
use Rattle.tera_ast.specs.View.{args_view, items_view, entries_view, filters_view, nodes_view}
use Rattle.tera_ast.specs.declared.ast.If.{size-If}
use Rattle.tera_tree_json.specs.TreeJson.{args_json, items_json, entries_json, filters_json, nodes_json}
use Rattle.tera_tree_json.proofs.Elifs.{IsOpen}
use Rattle.tera_tree_json.proofs.+tree.Given as goal

abbrev pub invariant-nodes::put_nodes-loop-node : goal.invariant-nodes::put_nodes-loop-node
invariant-nodes::put_nodes-loop-node l =
    (l.out.before ≡ l.initial.out.before)
    × (l.initial.out.tokens ++ items_tokens (nodes_json (nodes_view l.node-items)) ≡ l.out.tokens ++ items_tokens (nodes_json (nodes_view (drop l.node-index l.node-items))))

abbrev pub invariant-nodes::put_filters-loop-filter : goal.invariant-nodes::put_filters-loop-filter
invariant-nodes::put_filters-loop-filter l =
    (l.out.before ≡ l.initial.out.before)
    × (l.initial.out.tokens ++ items_tokens (filters_json (filters_view l.filter-items)) ≡ l.out.tokens ++ items_tokens (filters_json (filters_view (drop l.filter-index l.filter-items))))

abbrev pub invariant-expressions::put_items-loop-item : goal.invariant-expressions::put_items-loop-item
invariant-expressions::put_items-loop-item l =
    (l.out.before ≡ l.initial.out.before)
    × (l.initial.out.tokens ++ items_tokens (items_json (items_view l.item-items)) ≡ l.out.tokens ++ items_tokens (items_json (items_view (drop l.item-index l.item-items))))

abbrev pub invariant-expressions::put_entries-loop-entry : goal.invariant-expressions::put_entries-loop-entry
invariant-expressions::put_entries-loop-entry l =
    (l.out.before ≡ l.initial.out.before)
    × (l.initial.out.tokens ++ items_tokens (entries_json (entries_view l.entry-items)) ≡ l.out.tokens ++ items_tokens (entries_json (entries_view (drop l.entry-index l.entry-items))))

abbrev pub invariant-expressions::put_arguments-loop-name : goal.invariant-expressions::put_arguments-loop-name
invariant-expressions::put_arguments-loop-name l =
    (l.out.before ≡ l.initial.out.before)
    × (l.initial.out.tokens ++ members_tokens (args_json (args_view l.kwargs.entries)) ≡ l.out.tokens ++ members_tokens (args_json (args_view l.name-iterator)))

abbrev pub decreases-expressions::put_expression : goal.decreases-expressions::put_expression
decreases-expressions::put_expression l = 10 * goal.size-expressions::put_expression l + 0

abbrev pub decreases-expressions::put_part : goal.decreases-expressions::put_part
decreases-expressions::put_part l = 10 * goal.size-expressions::put_part l + 1

abbrev pub decreases-expressions::put_alone : goal.decreases-expressions::put_alone
decreases-expressions::put_alone l = 10 * goal.size-expressions::put_alone l + 2

abbrev pub decreases-expressions::put_pair : goal.decreases-expressions::put_pair
decreases-expressions::put_pair l = 10 * goal.size-expressions::put_pair l + 2

abbrev pub decreases-expressions::put_maybe : goal.decreases-expressions::put_maybe
decreases-expressions::put_maybe l = 10 * goal.size-expressions::put_maybe l + 2

abbrev pub decreases-expressions::put_item : goal.decreases-expressions::put_item
decreases-expressions::put_item l = 10 * goal.size-expressions::put_item l + 3

abbrev pub decreases-expressions::put_entry : goal.decreases-expressions::put_entry
decreases-expressions::put_entry l = 10 * goal.size-expressions::put_entry l + 3

abbrev pub decreases-expressions::put_arguments : goal.decreases-expressions::put_arguments
decreases-expressions::put_arguments l = 10 * goal.size-expressions::put_arguments l + 3

abbrev pub decreases-expressions::put_items : goal.decreases-expressions::put_items
decreases-expressions::put_items l = 10 * goal.size-expressions::put_items l + 4

abbrev pub decreases-expressions::put_entries : goal.decreases-expressions::put_entries
decreases-expressions::put_entries l = 10 * goal.size-expressions::put_entries l + 4

abbrev pub decreases-expressions::put_array : goal.decreases-expressions::put_array
decreases-expressions::put_array l = 10 * goal.size-expressions::put_array l + 6

abbrev pub decreases-expressions::put_map : goal.decreases-expressions::put_map
decreases-expressions::put_map l = 10 * goal.size-expressions::put_map l + 6

abbrev pub decreases-expressions::put_get_attr : goal.decreases-expressions::put_get_attr
decreases-expressions::put_get_attr l = 10 * goal.size-expressions::put_get_attr l + 6

abbrev pub decreases-expressions::put_get_item : goal.decreases-expressions::put_get_item
decreases-expressions::put_get_item l = 10 * goal.size-expressions::put_get_item l + 6

abbrev pub decreases-expressions::put_slice : goal.decreases-expressions::put_slice
decreases-expressions::put_slice l = 10 * goal.size-expressions::put_slice l + 6

abbrev pub decreases-expressions::put_filter : goal.decreases-expressions::put_filter
decreases-expressions::put_filter l = 10 * goal.size-expressions::put_filter l + 6

abbrev pub decreases-expressions::put_test : goal.decreases-expressions::put_test
decreases-expressions::put_test l = 10 * goal.size-expressions::put_test l + 6

abbrev pub decreases-expressions::put_ternary : goal.decreases-expressions::put_ternary
decreases-expressions::put_ternary l = 10 * goal.size-expressions::put_ternary l + 6

abbrev pub decreases-expressions::put_comprehension : goal.decreases-expressions::put_comprehension
decreases-expressions::put_comprehension l = 10 * goal.size-expressions::put_comprehension l + 6

abbrev pub decreases-expressions::put_component_call : goal.decreases-expressions::put_component_call
decreases-expressions::put_component_call l = 10 * goal.size-expressions::put_component_call l + 6

abbrev pub decreases-expressions::put_function_call : goal.decreases-expressions::put_function_call
decreases-expressions::put_function_call l = 10 * goal.size-expressions::put_function_call l + 6

abbrev pub decreases-expressions::put_unary : goal.decreases-expressions::put_unary
decreases-expressions::put_unary l = 10 * goal.size-expressions::put_unary l + 6

abbrev pub decreases-expressions::put_binary : goal.decreases-expressions::put_binary
decreases-expressions::put_binary l = 10 * goal.size-expressions::put_binary l + 6

abbrev pub decreases-nodes::put_node : goal.decreases-nodes::put_node
decreases-nodes::put_node l = 10 * goal.size-nodes::put_node l + 1

abbrev pub decreases-nodes::put_nodes : goal.decreases-nodes::put_nodes
decreases-nodes::put_nodes l = 10 * goal.size-nodes::put_nodes l + 2

abbrev pub decreases-nodes::put_shown : goal.decreases-nodes::put_shown
decreases-nodes::put_shown l = 10 * goal.size-nodes::put_shown l + 2

abbrev pub decreases-nodes::put_filters : goal.decreases-nodes::put_filters
decreases-nodes::put_filters l = 10 * goal.size-nodes::put_filters l + 3

abbrev pub decreases-nodes::put_body : goal.decreases-nodes::put_body
decreases-nodes::put_body l = 10 * goal.size-nodes::put_body l + 4

abbrev pub decreases-nodes::put_set : goal.decreases-nodes::put_set
decreases-nodes::put_set l = 10 * goal.size-nodes::put_set l + 6

abbrev pub decreases-nodes::put_block_set : goal.decreases-nodes::put_block_set
decreases-nodes::put_block_set l = 10 * goal.size-nodes::put_block_set l + 6

abbrev pub decreases-nodes::put_block : goal.decreases-nodes::put_block
decreases-nodes::put_block l = 10 * goal.size-nodes::put_block l + 6

abbrev pub decreases-nodes::put_for : goal.decreases-nodes::put_for
decreases-nodes::put_for l = 10 * goal.size-nodes::put_for l + 6

abbrev pub decreases-nodes::put_if : goal.decreases-nodes::put_if
decreases-nodes::put_if l = 10 * goal.size-nodes::put_if l + 6

abbrev pub decreases-nodes::put_branch : goal.decreases-nodes::put_branch
decreases-nodes::put_branch l = 10 * goal.size-nodes::put_branch l + 5

abbrev pub invariant-nodes::put_if-loop-next : goal.invariant-nodes::put_if-loop-next
invariant-nodes::put_if-loop-next l =
    (l.out.before ≡ l.initial.out.before) × (size-If l.last ≤ size-If l.initial.last)
    × IsOpen l.initial.out.tokens l.initial.last l.out.tokens l.last

abbrev pub decreases-nodes::put_section : goal.decreases-nodes::put_section
decreases-nodes::put_section l = 10 * goal.size-nodes::put_section l + 6
