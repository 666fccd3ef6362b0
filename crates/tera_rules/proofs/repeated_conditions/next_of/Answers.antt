use Rattle.std.proofs.Common.{inr}
use Rattle.tera_rules.proofs.ConditionsLemmas.{never_empty, next_is, rest_kept}
use Rattle.tera_rules.proofs.Pending.{emptied}
use Rattle.tera_rules.proofs.repeated_conditions.next_of.Goals as goal

pub returns-in-Some-clause-next : goal.returns-in-Some-clause-next
returns-in-Some-clause-next c =
    next_is c.args.choice.now c.keep_nexts.new.chain.nexts.items c.pop.new.self.items c.in-Some.next c.in-Some.ensures.items c.in_ok-keep_nexts.ensures

pub returns-in-Some-clause-chain : goal.returns-in-Some-clause-chain
returns-in-Some-clause-chain c =
    inr (rest_kept c.args.choice.now c.keep_nexts.new.chain.nexts.items c.pop.new.self.items c.in-Some.next c.in-Some.ensures.items c.in_ok-keep_nexts.ensures)

pub returns-in-None : goal.returns-in-None
returns-in-None c =
    never_empty c.args.choice.now c.keep_nexts.new.chain.nexts.items
    (emptied _ _ _ c.in-None.ensures.cases.0 c.in-None.ensures.items c.in-None.ensures.rest) c.in_ok-keep_nexts.ensures
