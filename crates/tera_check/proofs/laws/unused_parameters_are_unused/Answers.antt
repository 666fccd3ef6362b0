use Rattle.tera_check.proofs.DueLaws.{unused}
use Rattle.tera_check.proofs.laws.unused_parameters_are_unused.Goals as goal

pub returns : goal.returns
returns c = λ known open_text number t m span text notes mended found. unused known open_text number t m span text notes mended found
