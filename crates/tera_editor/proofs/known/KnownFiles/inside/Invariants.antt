use Rattle.std.proofs.Common.{◌≡◌, ◌++◌, filter, map, string_bytes}
use Rattle.tera_editor.specs.Templates.{is_inside}
use Rattle.tera_editor.proofs.known.KnownFiles.inside.Given as goal

abbrev pub invariant-loop-name : goal.invariant-loop-name
invariant-loop-name l =
    filter (is_inside l.folder) (map string_bytes l.self.names.keys) ≡ map string_bytes l.names.items ++ filter (is_inside l.folder) (map string_bytes l.name-iterator)
