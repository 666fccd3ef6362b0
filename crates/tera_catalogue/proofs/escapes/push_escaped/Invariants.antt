use Rattle.std.proofs.Common.{◌≡◌, ◌++◌, drop}
use Rattle.tera_catalogue.specs.Escapes.{escaped}
use Rattle.tera_catalogue.proofs.escapes.push_escaped.Given as goal

abbrev pub invariant-loop-byte : goal.invariant-loop-byte
invariant-loop-byte l =
    l.initial.page.items ++ escaped l.byte-items ≡ l.page.items ++ escaped (drop l.byte-index l.byte-items)
