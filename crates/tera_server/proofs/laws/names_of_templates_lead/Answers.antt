use Rattle.tera_server.proofs.NearestLemmas.{leads}
use Rattle.tera_server.proofs.laws.names_of_templates_lead.Goals as goal

pub returns : goal.returns
returns c = λ roots files name file there has. leads roots files name file there has
