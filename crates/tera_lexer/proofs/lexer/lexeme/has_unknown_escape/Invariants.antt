use Rattle.std.proofs.Common.{◌≡◌, drop, false}
use Rattle.tera_lexer.specs.reading.Front.{unknown_in}
use Rattle.tera_lexer.proofs.lexer.lexeme.has_unknown_escape.Given as goal

-- an unknown escape is looked for in what is left
abbrev pub invariant-loop-b : goal.invariant-loop-b
invariant-loop-b l = unknown_in false l.bytes ≡ unknown_in l.escape (drop l.b-index l.bytes)
