use Rattle.tera_grammar.proofs.statements.Wholes.{derives_unique}
use Rattle.tera_parser.proofs.laws.one_output.Goals as goal

pub returns : goal.returns
returns c = λ l m valid source one other a b. derives_unique l m valid source one other a b
