use Rattle.std.proofs.Common.{◌≡◌, ◌++◌, drop, false, string_bytes, ◌*◌, ◌+◌, ◌≤◌}
use Rattle.std.specs.Iterator.Adapters.{zip_first, zip_second}
use Rattle.std.specs.List.{zip}
use Rattle.std.specs.Map.{values_of}
use denote.Param.Weighed.{most}
use Rattle.std.specs.Slice.Iter.{iter_rest}
use Rattle.tera_base.specs.declared.values.Value.{size-Value}
use Rattle.tera_base.specs.ValueView.{vals_view, pairs_view}
use Rattle.tera_source.specs.Writing.{vals_text, pairs_text}
use Rattle.tera_source.proofs.constants.+constants.Given as goal

abbrev pub invariant-push_array-loop-value : goal.invariant-push_array-loop-value
invariant-push_array-loop-value l =
    string_bytes l.initial.out ++ vals_text false (vals_view l.values.items) ≡ string_bytes l.out ++ vals_text l.later (vals_view (drop l.value-index l.value-items))

abbrev pub invariant-push_pairs-loop-key : goal.invariant-push_pairs-loop-key
invariant-push_pairs-loop-key l =
    (string_bytes l.initial.out ++ pairs_text false (pairs_view l.map)
    ≡ string_bytes l.out ++ pairs_text l.later (pairs_view (zip (iter_rest (zip_first l.key-iterator)) (iter_rest (zip_second l.key-iterator)))))
    × (most size-Value (values_of (zip (iter_rest (zip_first l.key-iterator)) (iter_rest (zip_second l.key-iterator)))) ≤ most size-Value (values_of l.map))

abbrev pub decreases-push_constant : goal.decreases-push_constant
decreases-push_constant l = 10 * goal.size-push_constant l + 0

abbrev pub decreases-push_pair : goal.decreases-push_pair
decreases-push_pair l = 10 * goal.size-push_pair l + 1

abbrev pub decreases-push_array : goal.decreases-push_array
decreases-push_array l = 10 * goal.size-push_array l + 2

abbrev pub decreases-push_map : goal.decreases-push_map
decreases-push_map l = 10 * goal.size-push_map l + 3

abbrev pub decreases-push_pairs : goal.decreases-push_pairs
decreases-push_pairs l = 10 * goal.size-push_pairs l + 2
