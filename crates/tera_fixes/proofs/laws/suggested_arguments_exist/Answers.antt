use Rattle.tera_fixes.proofs.LawsLemmas.{argument_exists}
use Rattle.tera_fixes.proofs.laws.suggested_arguments_exist.Goals as goal

pub returns : goal.returns
returns c = λ x span text notes s is. argument_exists x span s is
