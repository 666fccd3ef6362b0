use Rattle.std.proofs.Common.{◌≡◌, map, string_bytes, take}
use Rattle.tera_server.specs.Sending.{with_all, messages_in, names_once, publisher}
use Rattle.tera_server.proofs.PublishLemmas.{HasDone}
use Rattle.tera_server.proofs.findings.publish_each.Given as goal

abbrev pub invariant-loop-name : goal.invariant-loop-name
invariant-loop-name l = record {
  sent : l.out ≡ with_all l.initial.out (messages_in (publisher l.publishing) l.workspace (names_once (map string_bytes l.others) (map string_bytes (take l.name-index l.names))));
  done : HasDone (map string_bytes l.others) (map string_bytes (take l.name-index l.names)) l.done;
}
