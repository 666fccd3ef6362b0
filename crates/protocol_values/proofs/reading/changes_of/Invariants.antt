use Rattle.std.proofs.Common.{◌≡◌, ◌++◌, map, drop, option_map}
use Rattle.json.specs.Value.{value_view}
use Rattle.text_edits.specs.Edits.{change_view}
use Rattle.protocol_values.specs.Reading.{each_change}
use Rattle.protocol_values.proofs.reading.changes_of.Given as goal

abbrev pub invariant-loop-item : goal.invariant-loop-item
invariant-loop-item l =
    option_map (λ changes. map change_view l.changes.items ++ changes) (each_change (map value_view (drop l.item-index l.items))) ≡ each_change (map value_view l.items)
