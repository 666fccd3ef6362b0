use Rattle.tera_answers.specs.Signatures.{parameter_tokens}
use Rattle.tera_answers.proofs.signatures.put_parameter.Goals as goal

pub returns-then-placed : goal.returns-then-placed
unfolding parameter_tokens
returns-then-placed c = rw c.if-placed.true c.put_placed.ensures

pub returns-else-placed : goal.returns-else-placed
unfolding parameter_tokens
returns-else-placed c = rw c.if-placed.false c.put_label.ensures
