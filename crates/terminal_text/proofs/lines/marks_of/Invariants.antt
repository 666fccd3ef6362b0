use Rattle.std.proofs.Common.{length, ◌-◌, ◌≡◌, ◌*◌, IsCharBoundary}
use Rattle.terminal_text.specs.Lines.{offset_at, AreMarks}
use Rattle.terminal_text.proofs.lines.marks_of.Given as goal

-- the next mark, after those that are made
abbrev pub invariant-loop-mark : goal.invariant-loop-mark
invariant-loop-mark l = record {
  are : AreMarks l.text l.marks.items;
  next : l.mark ≡ offset_at l.text (length l.marks.items * 128);
  boundary : IsCharBoundary l.text l.mark;
}

abbrev pub decreases-loop-mark : goal.decreases-loop-mark
decreases-loop-mark l = length l.text - l.mark
