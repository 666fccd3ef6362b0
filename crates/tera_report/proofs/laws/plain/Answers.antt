use Rattle.tera_report.proofs.Plain.{plain_is}
use Rattle.tera_report.proofs.laws.plain.Goals as goal

pub returns : goal.returns
returns c = plain_is
