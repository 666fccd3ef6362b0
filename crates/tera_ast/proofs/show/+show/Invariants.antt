use Rattle.std.proofs.Common.{◌≡◌, ℕ, List, ◌++◌, drop, false, ◌+◌, ◌*◌}
use Rattle.std.specs.Fmt.{HasWritten, IsPlainFormatter}
use Rattle.tera_ast.specs.View.{args_view, items_view, entries_view}
use Rattle.tera_ast.specs.Text.{args_text, items_text, entries_text}
use Rattle.tera_ast.proofs.show.+show.Given as goal

abbrev pub invariant-show_args-loop-name : goal.invariant-show_args-loop-name
invariant-show_args-loop-name g l =
    (p : List ℕ) × (IsPlainFormatter l.initial.f → HasWritten g.W.Write.write_str_gives l.initial.f p l.f)
    × (args_text false (args_view l.args.entries) ≡ p ++ args_text l.later (args_view l.name-iterator))

abbrev pub invariant-show_items-loop-item : goal.invariant-show_items-loop-item
invariant-show_items-loop-item g l =
    (p : List ℕ) × (IsPlainFormatter l.initial.f → HasWritten g.W.Write.write_str_gives l.initial.f p l.f)
    × (items_text false (items_view l.items.items) ≡ p ++ items_text l.later (items_view (drop l.item-index l.item-items)))

abbrev pub invariant-show_entries-loop-entry : goal.invariant-show_entries-loop-entry
invariant-show_entries-loop-entry g l =
    (p : List ℕ) × (IsPlainFormatter l.initial.f → HasWritten g.W.Write.write_str_gives l.initial.f p l.f)
    × (entries_text false (entries_view l.entries.items) ≡ p ++ entries_text l.later (entries_view (drop l.entry-index l.entry-items)))

abbrev pub decreases-show : goal.decreases-show
decreases-show g l = 10 * goal.size-show g l + 0

abbrev pub decreases-show_after : goal.decreases-show_after
decreases-show_after g l = 10 * goal.size-show_after g l + 1

abbrev pub decreases-show_pair : goal.decreases-show_pair
decreases-show_pair g l = 10 * goal.size-show_pair g l + 1

abbrev pub decreases-show_arg : goal.decreases-show_arg
decreases-show_arg g l = 10 * goal.size-show_arg g l + 1

abbrev pub decreases-show_item : goal.decreases-show_item
decreases-show_item g l = 10 * goal.size-show_item g l + 2

abbrev pub decreases-show_entry : goal.decreases-show_entry
decreases-show_entry g l = 10 * goal.size-show_entry g l + 2

abbrev pub decreases-show_maybe : goal.decreases-show_maybe
decreases-show_maybe g l = 10 * goal.size-show_maybe g l + 2

abbrev pub decreases-show_args : goal.decreases-show_args
decreases-show_args g l = 10 * goal.size-show_args g l + 3

abbrev pub decreases-show_items : goal.decreases-show_items
decreases-show_items g l = 10 * goal.size-show_items g l + 3

abbrev pub decreases-show_entries : goal.decreases-show_entries
decreases-show_entries g l = 10 * goal.size-show_entries g l + 3

abbrev pub decreases-show_operands : goal.decreases-show_operands
decreases-show_operands g l = 10 * goal.size-show_operands g l + 3

abbrev pub decreases-show_target : goal.decreases-show_target
decreases-show_target g l = 10 * goal.size-show_target g l + 3

abbrev pub decreases-show_call : goal.decreases-show_call
decreases-show_call g l = 10 * goal.size-show_call g l + 4

abbrev pub decreases-show_attributes : goal.decreases-show_attributes
decreases-show_attributes g l = 10 * goal.size-show_attributes g l + 4

abbrev pub decreases-show_array : goal.decreases-show_array
decreases-show_array g l = 10 * goal.size-show_array g l + 5

abbrev pub decreases-show_map : goal.decreases-show_map
decreases-show_map g l = 10 * goal.size-show_map g l + 5

abbrev pub decreases-show_get_attr : goal.decreases-show_get_attr
decreases-show_get_attr g l = 10 * goal.size-show_get_attr g l + 5

abbrev pub decreases-show_get_item : goal.decreases-show_get_item
decreases-show_get_item g l = 10 * goal.size-show_get_item g l + 5

abbrev pub decreases-show_slice : goal.decreases-show_slice
decreases-show_slice g l = 10 * goal.size-show_slice g l + 5

abbrev pub decreases-show_filter : goal.decreases-show_filter
decreases-show_filter g l = 10 * goal.size-show_filter g l + 5

abbrev pub decreases-show_test : goal.decreases-show_test
decreases-show_test g l = 10 * goal.size-show_test g l + 5

abbrev pub decreases-show_ternary : goal.decreases-show_ternary
decreases-show_ternary g l = 10 * goal.size-show_ternary g l + 5

abbrev pub decreases-show_comprehension : goal.decreases-show_comprehension
decreases-show_comprehension g l = 10 * goal.size-show_comprehension g l + 5

abbrev pub decreases-show_component_call : goal.decreases-show_component_call
decreases-show_component_call g l = 10 * goal.size-show_component_call g l + 5

abbrev pub decreases-show_function_call : goal.decreases-show_function_call
decreases-show_function_call g l = 10 * goal.size-show_function_call g l + 5

abbrev pub decreases-show_unary : goal.decreases-show_unary
decreases-show_unary g l = 10 * goal.size-show_unary g l + 5

abbrev pub decreases-show_binary : goal.decreases-show_binary
decreases-show_binary g l = 10 * goal.size-show_binary g l + 5
