use Rattle.std.proofs.Common.{◌≡◌, drop, map}
use Rattle.std.specs.List.{list_any}
use Rattle.json.specs.Value.{value_view}
use Rattle.tera_answers.specs.Actions.{is_correction}
use Rattle.tera_answers.proofs.actions.is_any_correction.Given as goal

abbrev pub invariant-loop-kind : goal.invariant-loop-kind
invariant-loop-kind l = list_any is_correction (map value_view l.kinds) ≡ list_any is_correction (map value_view (drop l.kind-index l.kinds))
