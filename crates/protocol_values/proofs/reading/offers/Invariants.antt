use Rattle.std.proofs.Common.{◌≡◌, map, drop}
use Rattle.json.specs.Value.{value_view}
use Rattle.protocol_values.specs.Reading.{offers}
use Rattle.protocol_values.proofs.reading.offers.Given as goal

abbrev pub invariant-loop-item : goal.invariant-loop-item
invariant-loop-item l = offers l.name (map value_view l.items) ≡ offers l.name (map value_view (drop l.item-index l.items))
