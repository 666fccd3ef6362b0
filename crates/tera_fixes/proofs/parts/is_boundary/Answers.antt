use Rattle.tera_templates.proofs.BoundaryLemmas.{boundary_is}
use Rattle.tera_fixes.proofs.parts.is_boundary.Goals as goal

pub returns : goal.returns
returns c = boundary_is c.args.text.now c.args.at c.is_char_boundary.result c.is_char_boundary.ensures.test
