use Rattle.std.proofs.Common.{map, string_bytes}
use Rattle.tera_editor.specs.Sites.{AddsRenewed, AreGiven}
use Rattle.tera_editor.proofs.sites.Sites.renew.Given as goal

abbrev pub invariant-rounds : goal.invariant-rounds
invariant-rounds l =
    AddsRenewed (map string_bytes l.initial.names.items) (map string_bytes l.names.items) l.initial.self l.self
    × (AreGiven l.initial.self → AreGiven l.self)
