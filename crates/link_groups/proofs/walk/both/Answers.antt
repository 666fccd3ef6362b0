use Rattle.std.proofs.Common.{sym, subst}
use Rattle.link_groups.specs.Walks.{AreBoth}
use Rattle.link_groups.proofs.Paths.{turned_both, are_both}
use Rattle.link_groups.proofs.walk.both.Goals as goal

pub returns-then-len : goal.returns-then-len
returns-then-len c =
    subst (AreBoth c.args.one.items c.args.other.items) (sym c.in_ok-append.ensures.items) (turned_both c.args.one.items c.args.other.items)

pub returns : goal.returns
returns c =
    subst (AreBoth c.args.one.items c.args.other.items) (sym c.in_ok-append-2.ensures.items) (are_both c.args.one.items c.args.other.items)
