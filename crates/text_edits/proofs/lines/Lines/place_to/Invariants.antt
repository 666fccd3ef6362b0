use Rattle.std.proofs.Common.{◌≤◌, length}
use Rattle.text_edits.proofs.lines.Lines.place_to.Given as goal

abbrev pub invariant-places : goal.invariant-places
invariant-places l = l.at ≤ length l.places

abbrev pub decreases-places : goal.decreases-places
decreases-places l = l.at
