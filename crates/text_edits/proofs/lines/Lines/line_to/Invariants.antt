use Rattle.std.proofs.Common.{◌<◌, ◌≤◌, ◌-◌, length, get_or}
use Rattle.text_edits.proofs.lines.Lines.line_to.Given as goal

-- the line looked for is between these
abbrev pub invariant-halves : goal.invariant-halves
invariant-halves l = record {
  some : l.line < l.beyond;
  within : l.beyond ≤ length l.self.starts.items;
  before : get_or l.self.starts.items l.line 0 ≤ l.byte;
}

abbrev pub decreases-halves : goal.decreases-halves
decreases-halves l = l.beyond - l.line
