use Rattle.tera_source.proofs.Again.{same_text}
use Rattle.tera_source.proofs.laws.one_text.Goals as goal

pub returns : goal.returns
returns c = λ one other same. same_text one other same
