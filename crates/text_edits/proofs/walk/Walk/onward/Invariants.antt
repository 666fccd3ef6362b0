use Rattle.std.proofs.Common.{◌≡◌, ◌≤◌, max}
use Rattle.text_edits.specs.Lines.{lines_of}
use Rattle.text_edits.specs.Positions.{position_of}
use Rattle.text_edits.proofs.walk.Walk.onward.Given as goal

-- the position is that of the byte
abbrev pub invariant-loop-at : goal.invariant-loop-at
invariant-loop-at l = record {
  position : l.position ≡ position_of l.encoding (lines_of l.bytes) l.at;
  within : l.at ≤ max l.fn.self.byte l.end;
}
