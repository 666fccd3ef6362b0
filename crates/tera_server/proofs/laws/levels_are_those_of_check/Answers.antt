use Rattle.tera_server.proofs.LevelLemmas.{same_level}
use Rattle.tera_server.proofs.laws.levels_are_those_of_check.Goals as goal

pub returns : goal.returns
returns c = λ levels kind unselected unignored. same_level levels kind unselected unignored
