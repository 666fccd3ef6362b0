use Rattle.std.proofs.Common.{[], map, string_bytes, take}
use Rattle.tera_server.proofs.PublishLemmas.{HasDone}
use Rattle.tera_server.proofs.findings.set_of.Given as goal

-- it has the names so far, and no others
abbrev pub invariant-loop-name : goal.invariant-loop-name
invariant-loop-name l = HasDone [] (map string_bytes (take l.name-index l.names)) l.all
