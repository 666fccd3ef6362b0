use Rattle.tera_grammar.proofs.statements.Tops as tops
use Rattle.tera_grammar.proofs.laws.one_template.Goals as goal

pub returns : goal.returns
returns c = λ l items one other a b. tops.one_template l items one other a b
