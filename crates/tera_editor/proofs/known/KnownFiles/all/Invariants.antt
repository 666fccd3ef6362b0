use Rattle.std.proofs.Common.{◌≡◌, ◌++◌, map, string_bytes}
use Rattle.tera_editor.proofs.known.KnownFiles.all.Given as goal

abbrev pub invariant-loop-name : goal.invariant-loop-name
invariant-loop-name l = map string_bytes l.self.names.keys ≡ map string_bytes l.names.items ++ map string_bytes l.name-iterator
