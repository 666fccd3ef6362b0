use Rattle.std.proofs.Common.{map, string_bytes}
use Rattle.tera_workspace.proofs.OthersNear.{FilesSoFar}
use Rattle.tera_workspace.proofs.near.names_of.Given as goal

abbrev pub invariant-loop-number : goal.invariant-loop-number
invariant-loop-number l = FilesSoFar l.kept.items l.others.items l.number-counter (map string_bytes l.names.items)
