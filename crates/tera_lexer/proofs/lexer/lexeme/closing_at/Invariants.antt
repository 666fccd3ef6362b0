use Rattle.std.proofs.Common.{◌≡◌, false, drop}
use Rattle.tera_lexer.specs.reading.Front.{closing_at}
use Rattle.tera_lexer.proofs.Closings.{further}
use Rattle.tera_lexer.proofs.lexer.lexeme.closing_at.Given as goal

-- what closes the string is looked for in what is left
abbrev pub invariant-loop-i : goal.invariant-loop-i
invariant-loop-i l = closing_at l.quote false l.bytes ≡ further l.i (closing_at l.quote l.escaped (drop l.i l.bytes))
