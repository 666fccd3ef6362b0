use Rattle.std.proofs.Common.{map, string_bytes, take}
use Rattle.tera_editor.proofs.SiteLemmas.{IsAssumedSoFar}
use Rattle.tera_editor.proofs.sites.assume_each.Given as goal

abbrev pub invariant-loop-name : goal.invariant-loop-name
invariant-loop-name l = IsAssumedSoFar (map string_bytes (take l.name-index l.names)) l.some l.fn.presences l.presences l.fn.has_news l.has_news
