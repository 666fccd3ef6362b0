use Rattle.tera_rules.specs.Registered.{registered_view}
use Rattle.tera_check.specs.Unknown.{unknown_in}
use Rattle.tera_rules.proofs.Pending.{emptied}
use Rattle.tera_check.proofs.UnknownLemmas.{all_taken}
use Rattle.tera_check.proofs.unknown.push_all_unknown.Goals as goal

pub returns-in-None : goal.returns-in-None
returns-in-None c =
    all_taken (unknown_in (registered_view c.args.registered.now)) c.loop-part.left.items _ _ c.loop-part.invariant
    (emptied _ _ _ c.in-None.ensures.cases.0 c.in-None.ensures.items c.in-None.ensures.rest)
