use Rattle.tera_server.proofs.ForestLemmas.{all_there}
use Rattle.tera_server.proofs.laws.all_symbols.Goals as goal

pub returns : goal.returns
returns c = all_there
