use Rattle.std.proofs.Common.{◌≤◌, length}
use Rattle.message_frames.specs.Header.{NoneEndsBefore}
use Rattle.message_frames.specs.Lines.{LinesBefore}
use Rattle.message_frames.proofs.lines.read_lines.Given as goal

abbrev pub invariant-lines : goal.invariant-lines
invariant-lines l = record {
  read : LinesBefore l.bytes l.fn.stated l.rest l.stated;
  within : l.searched ≤ length l.rest;
  none : NoneEndsBefore l.rest l.searched;
}

abbrev pub decreases-lines : goal.decreases-lines
decreases-lines l = length l.rest
