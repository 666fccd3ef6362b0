use Rattle.std.proofs.Common.{◌≤◌, ◌-◌, length}
use Rattle.memchr.specs.Find.{Nowhere, Passes, is_byte3}
use Rattle.tera_lexer.proofs.lexer.markers.further_of.Given as goal

-- none of them was passed
abbrev pub invariant-loop-from : goal.invariant-loop-from
invariant-loop-from l = record {
  within : l.from ≤ length l.bytes;
  passed : Nowhere (Passes (is_byte3 l.a l.b l.c) l.bytes) 0 l.from;
}

abbrev pub decreases-loop-from : goal.decreases-loop-from
decreases-loop-from l = length l.bytes - l.from
