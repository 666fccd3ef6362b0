use Rattle.tera_check.proofs.AlikeLemmas.{tree_alike}
use Rattle.tera_check.proofs.laws.by_names.Goals as goal

pub returns : goal.returns
returns c = λ known others number other t o h. tree_alike number other known others t o h
