use Rattle.message_frames.proofs.LineEnds.{no_end, first_end}
use Rattle.message_frames.proofs.lines.find_end.Goals as goal

pub returns-in_err-len : goal.returns-in_err-len
returns-in_err-len c =
    rw c.from_residual.ensures (no_end c.args.bytes.now c.args.searched c.requires.none (rw c.split_at.ensures.back at c.in_err-len.ensures))

pub returns : goal.returns
returns c =
    first_end c.args.bytes.now c.args.searched c.in_ok-len.len c.requires.none (rw c.split_at.ensures.back at c.in_ok-len.ensures)
