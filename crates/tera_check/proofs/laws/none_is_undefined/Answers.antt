use Rattle.tera_check.proofs.DueLaws.{defined}
use Rattle.tera_check.proofs.laws.none_is_undefined.Goals as goal

pub returns : goal.returns
returns c = λ known number t f is. defined known number t f is
