use Rattle.std.proofs.Common.{◌≡◌, take, sum_by}
use Rattle.terminal_text.specs.Hunks.{old_count, new_count}
use Rattle.terminal_text.proofs.differences.lines_in.Given as goal

abbrev pub invariant-edits : goal.invariant-edits
invariant-edits l = record {
  old : l.old ≡ sum_by old_count (take l.placed-index l.hunk);
  new : l.new ≡ sum_by new_count (take l.placed-index l.hunk);
}
