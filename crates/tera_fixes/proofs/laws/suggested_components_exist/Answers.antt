use Rattle.tera_fixes.proofs.LawsLemmas.{component_exists}
use Rattle.tera_fixes.proofs.laws.suggested_components_exist.Goals as goal

pub returns : goal.returns
returns c = λ x span text notes s is. component_exists x span s is
