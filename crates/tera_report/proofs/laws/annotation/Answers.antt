use Rattle.tera_report.proofs.OneLine.{one_line}
use Rattle.tera_report.proofs.laws.annotation.Goals as goal

pub returns : goal.returns
returns c file kind s text notes start end = one_line file kind s text notes start end
