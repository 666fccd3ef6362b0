use Rattle.text_edits.proofs.Order.{longest_is, front_bound}
use Rattle.text_edits.proofs.laws.longest.Goals as goal

pub returns-clause-within : goal.returns-clause-within
returns-clause-within c = front_bound

pub returns-clause-longest : goal.returns-clause-longest
returns-clause-longest c = longest_is
