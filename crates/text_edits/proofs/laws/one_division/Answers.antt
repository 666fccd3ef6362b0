use Rattle.text_edits.proofs.Division.{divided}
use Rattle.text_edits.proofs.laws.one_division.Goals as goal

pub returns : goal.returns
returns c = divided
