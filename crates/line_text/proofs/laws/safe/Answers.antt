use Rattle.line_text.proofs.Safe.{line_safe}
use Rattle.line_text.proofs.laws.safe.Goals as goal

pub returns : goal.returns
returns c = line_safe
