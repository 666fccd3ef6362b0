use Rattle.std.proofs.Common.{◌∙◌, ◌-◌, ap, map, take}
use Rattle.link_groups.proofs.Paths.{popped}
use Rattle.link_groups.proofs.walk.Walk.close_all.Goals as goal

pub follow-requires : goal.follow-requires
follow-requires c =
    let w = c.loop-step.self in
    record {
      walk = popped (map (λ l. l.items) w.links.now) w.places.items w.knots.items c.pop.new.self.items c.in-Some.knot w.opened w.closed
          c.in-Some.ensures.items c.loop-step.invariant.0;
    }

pub loop-step-preserved : goal.loop-step-preserved
loop-step-preserved c = (
  c.in_ok-follow-in-Some.ensures.walk.0,
  c.in_ok-follow-in-Some.ensures.walk.1 ∙ c.loop-step.invariant.1,
  λ i is. c.loop-step.invariant.2 i (c.in_ok-follow-in-Some.ensures.met i is),
)

pub returns-in-None-clause-path : goal.returns-in-None-clause-path
returns-in-None-clause-path c =
    c.in-None.ensures.rest ∙ ap (λ n. take (n - 1) c.loop-step.self.knots.items) c.in-None.ensures.cases.0
