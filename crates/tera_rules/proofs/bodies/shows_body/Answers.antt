use Rattle.tera_rules.proofs.BodiesLemmas.{none_shown}
use Rattle.tera_rules.proofs.Pending.{emptied}
use Rattle.tera_rules.proofs.bodies.shows_body.Goals as goal

pub returns-in-None : goal.returns-in-None
returns-in-None c =
    none_shown c.loop-part.left.items _ c.loop-part.invariant
    (emptied _ _ _ c.in-None.ensures.cases.0 c.in-None.ensures.items c.in-None.ensures.rest)
