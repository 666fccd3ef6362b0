use Rattle.std.proofs.Common.{map, string_bytes}
use Rattle.tera_editor.proofs.SiteLemmas.{RenewedSoFar}
use Rattle.tera_editor.proofs.sites.Sites.renew_each.Given as goal

abbrev pub invariant-loop-number : goal.invariant-loop-number
invariant-loop-number l =
    RenewedSoFar l.number l.workspace (map string_bytes l.fn.names.items) (map string_bytes l.names.items) l.fn.self l.self
