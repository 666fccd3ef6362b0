use Rattle.std.proofs.Common.{◌≡◌, ◌<◌, ◌≤◌, ◌-◌, ℕ, false, length, drop}
use Rattle.tera_lexer.specs.grammar.Marks.{Marks}
use Rattle.tera_lexer.specs.grammar.Division.{is_at_start}
use Rattle.tera_lexer.specs.code.Markers.{ArePairs}
use Rattle.tera_lexer.proofs.lexer.markers.text_len.Given as goal

-- no marker begins before here
abbrev pub invariant-loop-len : goal.invariant-loop-len
invariant-loop-len l = record {
  within : l.from ≤ length l.rest;
  none : (m : Marks) → ArePairs m l.pairs → (k : ℕ) → k < l.from → is_at_start m (drop k l.rest) ≡ false;
}

abbrev pub decreases-loop-len : goal.decreases-loop-len
decreases-loop-len l = length l.rest - l.from
