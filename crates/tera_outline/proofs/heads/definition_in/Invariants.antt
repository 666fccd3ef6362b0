use Rattle.std.proofs.Common.{◌≡◌, drop, map}
use Rattle.std.specs.List.{find}
use Rattle.tera_outline.specs.Heads.{defines}
use Rattle.tera_outline.specs.Symbols.{outlined}
use Rattle.tera_outline.proofs.heads.definition_in.Given as goal

abbrev pub invariant-loop-symbol : goal.invariant-loop-symbol
invariant-loop-symbol l = find (defines l.name) (map outlined (drop l.symbol-index l.symbols)) ≡ find (defines l.name) (map outlined l.symbols)
