use Rattle.std.proofs.Common.{◌≡◌, drop, map, string_bytes}
use Rattle.std.specs.List.{list_any}
use Rattle.tera_workspace.specs.Names.{is_among}
use Rattle.tera_workspace.proofs.name_list.have_common.Given as goal

abbrev pub invariant-loop-name : goal.invariant-loop-name
invariant-loop-name l =
    list_any (λ n. is_among n (map string_bytes l.names.items)) (map string_bytes l.name-items)
    ≡ list_any (λ n. is_among n (map string_bytes l.names.items)) (map string_bytes (drop l.name-index l.name-items))
