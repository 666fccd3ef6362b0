use Rattle.std.proofs.Common.{drop, map, string_bytes}
use Rattle.json.specs.Value.{value_view}
use Rattle.tera_server.specs.Notes.{item_uri}
use Rattle.tera_server.proofs.NameLemmas.{Follow}
use Rattle.tera_server.proofs.notes.names_in.Given as goal

abbrev pub invariant-loop-item : goal.invariant-loop-item
invariant-loop-item l = Follow (map item_uri (map value_view l.items)) (map item_uri (map value_view (drop l.item-index l.items))) (map string_bytes l.names.items)
