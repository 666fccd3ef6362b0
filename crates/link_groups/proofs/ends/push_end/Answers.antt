use Rattle.link_groups.proofs.EndLemmas.{end_pushed}
use Rattle.link_groups.proofs.ends.push_end.Goals as goal

pub returns-in_ok-push : goal.returns-in_ok-push
returns-in_ok-push c =
    end_pushed c.args.reversed.now.items c.args.end c.args.thing c.in-Some.links.now c.push.new.self c.in-Some.ensures.value c.in_ok-push.ensures.items
