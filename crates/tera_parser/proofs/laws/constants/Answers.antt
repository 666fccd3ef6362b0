use Rattle.tera_grammar.proofs.statements.Numbers.{source_holds}
use Rattle.tera_parser.proofs.laws.constants.Goals as goal

pub returns : goal.returns
returns c = λ l m valid source read d. source_holds l m valid source read d
