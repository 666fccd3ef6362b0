use Rattle.tera_expect.proofs.TakingLemmas.{refused_further}
use Rattle.tera_tags.proofs.KnowingLemmas.{knowing}
use Rattle.tera_tags.proofs.parameters.repeated.Goals as goal

pub returns-then-rest : goal.returns-then-rest
returns-then-rest c = λ known old meets. knowing known old _ _ (refused_further old _ _ _ meets.0 c.rest_is_parameter.ensures)

pub returns-else-rest : goal.returns-else-rest
returns-else-rest c = c.repeated_parameter.ensures
