use Rattle.tera_fixes.proofs.LawsLemmas.{parts_in_text}
use Rattle.tera_fixes.proofs.laws.parts_are_in_the_text.Goals as goal

pub returns : goal.returns
returns c = λ x f s is. parts_in_text x f s is
