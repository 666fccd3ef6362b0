use Rattle.std.proofs.Common.{◌≡◌, ◌++◌, drop, map, string_bytes}
use Rattle.tera_server.specs.States.{names_without}
use Rattle.tera_server.proofs.notes.without.Given as goal

abbrev pub invariant-loop-name : goal.invariant-loop-name
invariant-loop-name l =
    names_without (map string_bytes l.others) (map string_bytes l.names)
    ≡ map string_bytes l.kept.items ++ names_without (map string_bytes l.others) (map string_bytes (drop l.name-index l.names))
