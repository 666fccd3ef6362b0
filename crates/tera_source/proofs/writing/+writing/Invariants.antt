use Rattle.std.proofs.Common.{◌≡◌, ◌++◌, drop, false, string_bytes, ◌*◌, ◌+◌}
use Rattle.tera_ast.specs.View.{args_view, items_view, entries_view}
use Rattle.tera_source.specs.Bodies.{args_have_body, items_have_body, entries_have_body}
use Rattle.tera_source.specs.Writing.{args_text, items_text, entries_text, attributes_text}
use Rattle.tera_source.proofs.writing.+writing.Given as goal

abbrev pub invariant-push_args-loop-name : goal.invariant-push_args-loop-name
invariant-push_args-loop-name l =
    (string_bytes l.initial.out ++ args_text false (args_view l.args.entries) ≡ string_bytes l.out ++ args_text l.later (args_view l.name-iterator))
    × (args_have_body (args_view l.args.entries) ≡ args_have_body (args_view l.name-iterator))

abbrev pub invariant-push_items-loop-item : goal.invariant-push_items-loop-item
invariant-push_items-loop-item l =
    (string_bytes l.initial.out ++ items_text false (items_view l.items.items) ≡ string_bytes l.out ++ items_text l.later (items_view (drop l.item-index l.item-items)))
    × (items_have_body (items_view l.items.items) ≡ items_have_body (items_view (drop l.item-index l.item-items)))

abbrev pub invariant-push_entries-loop-entry : goal.invariant-push_entries-loop-entry
invariant-push_entries-loop-entry l =
    (string_bytes l.initial.out ++ entries_text false (entries_view l.entries.items) ≡ string_bytes l.out ++ entries_text l.later (entries_view (drop l.entry-index l.entry-items)))
    × (entries_have_body (entries_view l.entries.items) ≡ entries_have_body (entries_view (drop l.entry-index l.entry-items)))

abbrev pub invariant-push_attributes-loop-attribute : goal.invariant-push_attributes-loop-attribute
invariant-push_attributes-loop-attribute l =
    (string_bytes l.initial.out ++ attributes_text (entries_view l.attributes.items) ≡ string_bytes l.out ++ attributes_text (entries_view (drop l.attribute-index l.attribute-items)))
    × (entries_have_body (entries_view l.attributes.items) ≡ entries_have_body (entries_view (drop l.attribute-index l.attribute-items)))

abbrev pub decreases-push_bare : goal.decreases-push_bare
decreases-push_bare l = 10 * goal.size-push_bare l + 0

abbrev pub decreases-push_expression : goal.decreases-push_expression
decreases-push_expression l = 10 * goal.size-push_expression l + 1

abbrev pub decreases-push_negation : goal.decreases-push_negation
decreases-push_negation l = 10 * goal.size-push_negation l + 2

abbrev pub decreases-push_after : goal.decreases-push_after
decreases-push_after l = 10 * goal.size-push_after l + 2

abbrev pub decreases-push_maybe : goal.decreases-push_maybe
decreases-push_maybe l = 10 * goal.size-push_maybe l + 3

abbrev pub decreases-push_braced : goal.decreases-push_braced
decreases-push_braced l = 10 * goal.size-push_braced l + 3

abbrev pub decreases-push_attribute_value : goal.decreases-push_attribute_value
decreases-push_attribute_value l = 10 * goal.size-push_attribute_value l + 4

abbrev pub decreases-push_named : goal.decreases-push_named
decreases-push_named l = 10 * goal.size-push_named l + 5

abbrev pub decreases-push_attribute : goal.decreases-push_attribute
decreases-push_attribute l = 10 * goal.size-push_attribute l + 6

abbrev pub decreases-push_attributes : goal.decreases-push_attributes
decreases-push_attributes l = 10 * goal.size-push_attributes l + 7

abbrev pub decreases-push_arg : goal.decreases-push_arg
decreases-push_arg l = 10 * goal.size-push_arg l + 3

abbrev pub decreases-push_pair : goal.decreases-push_pair
decreases-push_pair l = 10 * goal.size-push_pair l + 3

abbrev pub decreases-push_item : goal.decreases-push_item
decreases-push_item l = 10 * goal.size-push_item l + 3

abbrev pub decreases-push_entry : goal.decreases-push_entry
decreases-push_entry l = 10 * goal.size-push_entry l + 4

abbrev pub decreases-push_items : goal.decreases-push_items
decreases-push_items l = 10 * goal.size-push_items l + 5

abbrev pub decreases-push_entries : goal.decreases-push_entries
decreases-push_entries l = 10 * goal.size-push_entries l + 5

abbrev pub decreases-push_args : goal.decreases-push_args
decreases-push_args l = 10 * goal.size-push_args l + 4

abbrev pub decreases-push_optional_args : goal.decreases-push_optional_args
decreases-push_optional_args l = 10 * goal.size-push_optional_args l + 5

abbrev pub decreases-push_target : goal.decreases-push_target
decreases-push_target l = 10 * goal.size-push_target l + 4

abbrev pub decreases-push_array : goal.decreases-push_array
decreases-push_array l = 10 * goal.size-push_array l + 8

abbrev pub decreases-push_map : goal.decreases-push_map
decreases-push_map l = 10 * goal.size-push_map l + 8

abbrev pub decreases-push_get_attr : goal.decreases-push_get_attr
decreases-push_get_attr l = 10 * goal.size-push_get_attr l + 8

abbrev pub decreases-push_get_item : goal.decreases-push_get_item
decreases-push_get_item l = 10 * goal.size-push_get_item l + 8

abbrev pub decreases-push_slice : goal.decreases-push_slice
decreases-push_slice l = 10 * goal.size-push_slice l + 8

abbrev pub decreases-push_filter : goal.decreases-push_filter
decreases-push_filter l = 10 * goal.size-push_filter l + 8

abbrev pub decreases-push_test : goal.decreases-push_test
decreases-push_test l = 10 * goal.size-push_test l + 8

abbrev pub decreases-push_ternary : goal.decreases-push_ternary
decreases-push_ternary l = 10 * goal.size-push_ternary l + 8

abbrev pub decreases-push_comprehension : goal.decreases-push_comprehension
decreases-push_comprehension l = 10 * goal.size-push_comprehension l + 8

abbrev pub decreases-push_component_call : goal.decreases-push_component_call
decreases-push_component_call l = 10 * goal.size-push_component_call l + 8

abbrev pub decreases-push_function_call : goal.decreases-push_function_call
decreases-push_function_call l = 10 * goal.size-push_function_call l + 8

abbrev pub decreases-push_unary : goal.decreases-push_unary
decreases-push_unary l = 10 * goal.size-push_unary l + 8

abbrev pub decreases-push_binary : goal.decreases-push_binary
decreases-push_binary l = 10 * goal.size-push_binary l + 8
