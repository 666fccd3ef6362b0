use Rattle.std.proofs.Common.{◌≡◌, ◌++◌, drop, ◌*◌, ◌+◌, ◌≤◌}
use Rattle.std.specs.Iterator.Adapters.{zip_first, zip_second}
use Rattle.std.specs.List.{zip}
use Rattle.std.specs.Map.{values_of}
use denote.Param.Weighed.{most}
use Rattle.std.specs.Slice.Iter.{iter_rest}
use Rattle.json.specs.Tree.{items_tokens}
use Rattle.tera_base.specs.declared.values.Value.{size-Value}
use Rattle.tera_base.specs.ValueView.{vals_view, pairs_view}
use Rattle.tera_tree_json.specs.Constants.{vals_json, pairs_json}
use Rattle.tera_tree_json.proofs.constants.+constants.Given as goal

abbrev pub invariant-put_values-loop-value : goal.invariant-put_values-loop-value
invariant-put_values-loop-value l =
    (l.out.before ≡ l.initial.out.before)
    × (l.initial.out.tokens ++ items_tokens (vals_json (vals_view l.value-items)) ≡ l.out.tokens ++ items_tokens (vals_json (vals_view (drop l.value-index l.value-items))))

abbrev pub invariant-put_pairs-loop-key : goal.invariant-put_pairs-loop-key
invariant-put_pairs-loop-key l =
    let rest = zip (iter_rest (zip_first l.key-iterator)) (iter_rest (zip_second l.key-iterator)) in
    (l.out.before ≡ l.initial.out.before)
    × (l.initial.out.tokens ++ items_tokens (pairs_json (pairs_view l.map)) ≡ l.out.tokens ++ items_tokens (pairs_json (pairs_view rest)))
    × (most size-Value (values_of rest) ≤ most size-Value (values_of l.map))

abbrev pub decreases-put_value : goal.decreases-put_value
decreases-put_value l = 10 * goal.size-put_value l + 0

abbrev pub decreases-put_pair : goal.decreases-put_pair
decreases-put_pair l = 10 * goal.size-put_pair l + 1

abbrev pub decreases-put_values : goal.decreases-put_values
decreases-put_values l = 10 * goal.size-put_values l + 2

abbrev pub decreases-put_map : goal.decreases-put_map
decreases-put_map l = 10 * goal.size-put_map l + 3

abbrev pub decreases-put_pairs : goal.decreases-put_pairs
decreases-put_pairs l = 10 * goal.size-put_pairs l + 2
