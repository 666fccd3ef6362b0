use Rattle.tera_server.proofs.AnswerLemmas.{offered_component}
use Rattle.tera_server.proofs.laws.offered_components_are_defined.Goals as goal

pub returns : goal.returns
returns c = λ w roots r named bound n there. offered_component w roots r named bound n there
