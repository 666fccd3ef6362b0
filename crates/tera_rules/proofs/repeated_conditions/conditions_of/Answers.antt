use Rattle.std.proofs.Common.{map}
use Rattle.tera_ast.specs.View.{expression_view, if_view}
use Rattle.tera_rules.specs.RepeatedConditions.{conditions_of}
use Rattle.tera_rules.proofs.ConditionsLemmas.{last_one, one_more, pushed}
use Rattle.tera_rules.proofs.repeated_conditions.conditions_of.Goals as goal

pub loop-step-preserved : goal.loop-step-preserved
loop-step-preserved c =
    one_more c.loop-step.link.now c.in-Some.next.now (conditions_of (if_view c.args.choice.now)) (map (λ e. expression_view e.now) c.loop-step.conditions.items) _
    c.in-Some.ensures.some c.loop-step.invariant (pushed _ _ _ c.in_ok-push.ensures.items)

pub returns-in-None : goal.returns-in-None
returns-in-None c =
    last_one c.loop-step.link.now (conditions_of (if_view c.args.choice.now)) (map (λ e. expression_view e.now) c.loop-step.conditions.items) _
    c.in-None.ensures.none c.loop-step.invariant (pushed _ _ _ c.in_ok-push.ensures.items)
