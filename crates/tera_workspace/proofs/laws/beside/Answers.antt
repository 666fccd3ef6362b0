use Rattle.tera_workspace.proofs.BesideLemmas.{tree_but}
use Rattle.tera_workspace.proofs.laws.beside.Goals as goal

pub returns : goal.returns
returns c = λ known others file number t o h b. tree_but file number known others t o h b
