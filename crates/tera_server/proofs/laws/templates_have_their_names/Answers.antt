use Rattle.tera_server.proofs.NearestLemmas.{has_its_name}
use Rattle.tera_server.proofs.laws.templates_have_their_names.Goals as goal

pub returns : goal.returns
returns c = λ roots files name file is. has_its_name roots files name file is
