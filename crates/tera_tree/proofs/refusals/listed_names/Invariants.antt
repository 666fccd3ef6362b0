use Rattle.std.proofs.Common.{◌≡◌, ◌++◌}
use Rattle.tera_tree.proofs.refusals.listed_names.Given as goal

abbrev pub invariant-loop-name : goal.invariant-loop-name
invariant-loop-name l = l.names.items ++ l.name-iterator ≡ l.sorted.keys
