use Rattle.std.proofs.Common.{◌≡◌, drop}
use Rattle.tera_tree.specs.Calls.{texts, place_names, once_each}
use Rattle.tera_answers.proofs.completions.once_each.Given as goal

abbrev pub invariant-loop-name : goal.invariant-loop-name
invariant-loop-name l = place_names (texts (drop l.name-index l.names)) (texts l.sorted.keys) ≡ once_each (texts l.names)
