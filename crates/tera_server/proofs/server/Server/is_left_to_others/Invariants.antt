use Rattle.std.proofs.Common.{◌≡◌, drop, map, string_bytes}
use Rattle.std.specs.List.{list_any}
use Rattle.tera_server.specs.Configuring.{is_left_to_others, reports_others_near}
use Rattle.tera_server.proofs.server.Server.is_left_to_others.Given as goal

abbrev pub invariant-loop-other : goal.invariant-loop-other
invariant-loop-other l =
    is_left_to_others l.self l.folder ≡ list_any (reports_others_near l.self l.folder) (map string_bytes (drop l.other-index l.other-items))
