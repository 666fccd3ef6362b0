use Rattle.tera_server.proofs.AnswerLemmas.{offered_parameter}
use Rattle.tera_server.proofs.laws.offered_parameters_are_defined.Goals as goal

pub returns : goal.returns
returns c = λ w roots r named bound n call there. offered_parameter w roots r named bound n call there
