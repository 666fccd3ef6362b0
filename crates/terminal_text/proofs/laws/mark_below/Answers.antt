use Rattle.terminal_text.proofs.Marks.{marked_below}
use Rattle.terminal_text.proofs.laws.mark_below.Goals as goal

pub returns : goal.returns
returns c = marked_below
