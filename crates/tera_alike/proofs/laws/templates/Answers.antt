use Rattle.tera_alike.proofs.Templates.{alike_template}
use Rattle.tera_alike.proofs.laws.templates.Goals as goal

pub returns : goal.returns
returns c = λ limits a b alike x is. alike_template limits a b alike x is
