use Rattle.tera_base.proofs.Equals.{report_decides}
use Rattle.tera_base.proofs.laws.same_report.Goals as goal

pub returns : goal.returns
returns c = let d = report_decides c.args.a.now c.args.b.now in rw (c.eq.ensures) d
