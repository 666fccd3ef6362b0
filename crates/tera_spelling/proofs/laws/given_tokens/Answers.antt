use Rattle.tera_spelling.proofs.Given.{source_given}
use Rattle.tera_spelling.proofs.laws.given_tokens.Goals as goal

pub returns : goal.returns
returns c = λ m source items are. source_given m source items are
