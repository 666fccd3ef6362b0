use Rattle.tera_mend.proofs.Kept.{mends_keep}
use Rattle.tera_mend.proofs.laws.source_stays.Goals as goal

pub returns : goal.returns
returns c = λ l m source steps text mends. mends_keep l m steps source text mends
