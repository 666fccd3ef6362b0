use Rattle.memchr.specs.Find.{Nowhere, Passes, is_byte3}
use Rattle.tera_lexer.proofs.lexer.markers.next_of.Given as goal

-- none of them was passed
abbrev pub invariant-loop-i : goal.invariant-loop-i
invariant-loop-i l = Nowhere (Passes (is_byte3 l.a l.b l.c) l.bytes) 0 l.i
