use Rattle.tera_base.proofs.Equals.{error_decides}
use Rattle.tera_base.proofs.laws.same_error.Goals as goal

pub returns : goal.returns
returns c = let d = error_decides c.args.a.now c.args.b.now in rw (c.eq.ensures) d
