use Rattle.std.proofs.Common.{◌≡◌, true, sym, subst}
use Rattle.std.specs.Prelude.{◌↔◌}
use Rattle.link_groups.specs.Groups.{Reaches}
use Rattle.link_groups.proofs.CircleLemmas.{back}
use Rattle.link_groups.proofs.circles.leads_back.Goals as goal

pub returns-clause-back : goal.returns-clause-back
returns-clause-back c = λ links h link.
    subst (λ b. (b ≡ true) ↔ Reaches links c.args.from c.args.to) (sym c.is_one_group.ensures)
    (back links c.args.groups.now.items h c.args.from c.args.to link)
