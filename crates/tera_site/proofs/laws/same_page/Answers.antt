use Rattle.tera_site.proofs.KeptLemmas.{page_decides}
use Rattle.tera_site.proofs.laws.same_page.Goals as goal

pub returns : goal.returns
returns c = let d = page_decides c.args.a.now c.args.b.now in rw (c.eq.ensures) d
