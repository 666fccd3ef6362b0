use Rattle.std.proofs.Common.{length, ◌+◌, ◌-◌}
use Rattle.tera_outline.specs.Runs.{AreEditsTo, AreAfterRuns}
use Rattle.tera_outline.proofs.edits.edits_of.Given as goal

abbrev pub invariant-words : goal.invariant-words
invariant-words l = record {
  edits : AreEditsTo l.old l.new l.edits.items (l.at.old + 1) l.at;
  following : AreAfterRuns l.old l.new l.at;
}

abbrev pub decreases-words : goal.decreases-words
decreases-words l = length l.old - l.at.old
