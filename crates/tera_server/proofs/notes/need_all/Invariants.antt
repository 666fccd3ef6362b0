use Rattle.std.proofs.Common.{◌≡◌, ◌++◌, take, map}
use Rattle.tera_server.specs.States.{needed_view}
use Rattle.tera_server.proofs.NeedLemmas.{needs_all}
use Rattle.tera_server.proofs.notes.need_all.Given as goal

abbrev pub invariant-loop-name : goal.invariant-loop-name
invariant-loop-name l =
    map needed_view l.needed.items ≡ map needed_view l.initial.needed.items ++ needs_all l.kind (take l.name-index l.names)
