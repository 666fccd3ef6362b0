use Rattle.tera_site.proofs.KeptLemmas.{surroundings_decide}
use Rattle.tera_site.proofs.laws.same_surroundings.Goals as goal

pub returns : goal.returns
returns c = let d = surroundings_decide c.args.a.now c.args.b.now in rw (c.eq.ensures) d
