use Rattle.tera_server.proofs.AnswerLemmas.{of_definition}
use Rattle.tera_server.proofs.laws.heads_are_of_definitions.Goals as goal

pub returns : goal.returns
returns c = λ w roots named head is. of_definition w roots head named is
