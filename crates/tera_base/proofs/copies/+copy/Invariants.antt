use Rattle.std.proofs.Common.{◌≡◌, map, take}
use Rattle.tera_base.specs.ValueView.{value_view}
use Rattle.tera_base.proofs.copies.+copy.Given as goal

abbrev pub invariant-copy_values-loop-value : goal.invariant-copy_values-loop-value
invariant-copy_values-loop-value l = map value_view l.copies.items ≡ map value_view (take l.value-index l.values)
