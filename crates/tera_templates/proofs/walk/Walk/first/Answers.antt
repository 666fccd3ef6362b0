use Rattle.std.proofs.Common.{refl}
use Rattle.tera_lexer.specs.grammar.Place.{place_after}
use Rattle.tera_templates.proofs.walk.Walk.first.Goals as goal

pub returns : goal.returns
unfolding place_after
returns c = refl
