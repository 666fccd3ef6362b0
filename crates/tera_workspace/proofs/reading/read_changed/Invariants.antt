use Rattle.std.proofs.Common.{map, string_bytes}
use Rattle.tera_workspace.proofs.ReadSoFar.{AreRead}
use Rattle.tera_workspace.proofs.reading.read_changed.Given as goal

abbrev pub invariant-loop-name : goal.invariant-loop-name
invariant-loop-name l = AreRead l.documents (map string_bytes l.name-items) l.name-index l.initial.all.items l.all.items
