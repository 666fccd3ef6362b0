use Rattle.tera_rules.proofs.Pending.{emptied}
use Rattle.tera_site.specs.Views.{around_view}
use Rattle.tera_site.proofs.PlacedLemmas.{all_taken}
use Rattle.tera_site.proofs.named.push_parts.Goals as goal

pub returns-in-None : goal.returns-in-None
returns-in-None c =
    all_taken (around_view c.args.around) c.loop-part.left.items _ _ c.loop-part.invariant
    (emptied _ _ _ c.in-None.ensures.cases.0 c.in-None.ensures.items c.in-None.ensures.rest)
