use Rattle.tera_rules.proofs.Pending.{emptied}
use Rattle.tera_site.specs.Pages.{block_name, included}
use Rattle.tera_site.proofs.PageLemmas.{all_taken}
use Rattle.tera_site.proofs.pages.put_names.Goals as goal

pub returns-in-None-clause-includes : goal.returns-in-None-clause-includes
returns-in-None-clause-includes c =
    all_taken included c.loop-part.left.items _ _ c.loop-part.invariant.includes
    (emptied _ _ _ c.in-None.ensures.cases.0 c.in-None.ensures.items c.in-None.ensures.rest)

pub returns-in-None-clause-blocks : goal.returns-in-None-clause-blocks
returns-in-None-clause-blocks c =
    all_taken block_name c.loop-part.left.items _ _ c.loop-part.invariant.blocks
    (emptied _ _ _ c.in-None.ensures.cases.0 c.in-None.ensures.items c.in-None.ensures.rest)
