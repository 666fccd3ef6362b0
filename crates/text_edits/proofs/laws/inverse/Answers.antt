use Rattle.text_edits.proofs.Inverse.{inverse_is}
use Rattle.text_edits.proofs.laws.inverse.Goals as goal

pub returns : goal.returns
returns c = inverse_is
