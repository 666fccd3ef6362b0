use Rattle.std.proofs.Common.{◌≡◌, ◌++◌, drop, filter, map, string_bytes}
use Rattle.tera_workspace.specs.Definitions.{text_view}
use Rattle.tera_server.specs.Configuring.{is_due_by_library}
use Rattle.tera_server.proofs.server.Server.due_by_library.Given as goal

abbrev pub invariant-loop-text : goal.invariant-loop-text
invariant-loop-text l =
    map string_bytes l.names.items ++ filter (is_due_by_library l.self l.folder l.found) (map (λ s. s.name) (map text_view (drop l.text-index l.text-items)))
    ≡ filter (is_due_by_library l.self l.folder l.found) (map (λ s. s.name) (map text_view l.text-items))
