use Rattle.std.proofs.Common.{◌≡◌, ◌+◌, ◌*◌, ◌++◌, drop}
use Rattle.std.specs.Iterator.Adapters.{zip_first, zip_second}
use Rattle.std.specs.List.{zip}
use Rattle.std.specs.Slice.Iter.{iter_rest}
use Rattle.tera_base.specs.ValueView.{vals_view, pairs_view}
use Rattle.tera_catalogue.specs.Constants.{constants, members_of}
use Rattle.tera_catalogue.proofs.values.+constants.Given as goal

abbrev pub decreases-write_value : goal.decreases-write_value
decreases-write_value l = 3 * l.room + 2

abbrev pub decreases-write_map : goal.decreases-write_map
decreases-write_map l = 3 * l.room + 1

abbrev pub decreases-write_array : goal.decreases-write_array
decreases-write_array l = 3 * l.room

abbrev pub decreases-write_members : goal.decreases-write_members
decreases-write_members l = 3 * l.room

abbrev pub invariant-write_array-loop-value : goal.invariant-write_array-loop-value
invariant-write_array-loop-value l =
    l.initial.writer ++ constants (vals_view l.values.items) ≡ l.writer ++ constants (vals_view (drop l.value-index l.value-items))

abbrev pub invariant-write_members-loop-name : goal.invariant-write_members-loop-name
invariant-write_members-loop-name l =
    l.initial.writer ++ members_of (pairs_view l.map)
    ≡ l.writer ++ members_of (pairs_view (zip (iter_rest (zip_first l.name-iterator)) (iter_rest (zip_second l.name-iterator))))
