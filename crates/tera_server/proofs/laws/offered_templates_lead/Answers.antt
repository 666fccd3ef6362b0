use Rattle.tera_server.proofs.AnswerLemmas.{offered_template}
use Rattle.tera_server.proofs.laws.offered_templates_lead.Goals as goal

pub returns : goal.returns
returns c = λ w roots r named bound n there. offered_template w roots r named bound n there
