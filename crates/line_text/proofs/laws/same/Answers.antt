use Rattle.line_text.proofs.Safe.{line_same}
use Rattle.line_text.proofs.laws.same.Goals as goal

pub returns : goal.returns
returns c = line_same
