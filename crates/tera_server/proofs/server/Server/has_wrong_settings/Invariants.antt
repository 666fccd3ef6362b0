use Rattle.std.proofs.Common.{◌≡◌, drop, map, string_bytes}
use Rattle.std.specs.List.{list_any}
use Rattle.tera_server.specs.Configuring.{has_wrong_settings, is_wrong_in}
use Rattle.tera_server.proofs.server.Server.has_wrong_settings.Given as goal

abbrev pub invariant-loop-folder : goal.invariant-loop-folder
invariant-loop-folder l =
    has_wrong_settings l.self ≡ list_any (is_wrong_in l.self) (map string_bytes (drop l.folder-index l.folder-items))
