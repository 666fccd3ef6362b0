use Rattle.std.proofs.Common.{◌≡◌, ◌++◌}
use Rattle.text_edits.specs.Lines.{lines_of, starts_of}
use Rattle.text_edits.proofs.Starts.{later}
use Rattle.text_edits.proofs.lines.starts_of.Given as goal

-- those that were found, and those that are still to be found, are all
abbrev pub invariant-loop-at : goal.invariant-loop-at
invariant-loop-at l = l.starts.items ++ later l.bytes l.at ≡ starts_of (lines_of l.bytes)
