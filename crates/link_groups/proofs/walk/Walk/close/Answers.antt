use Rattle.std.proofs.Common.{map, reverse, refl, sym, subst}
use Rattle.link_groups.specs.Walks.{IsWalkOf}
use Rattle.link_groups.proofs.Paths.{put_meets}
use Rattle.link_groups.proofs.Steps.{closed_knot}
use Rattle.link_groups.proofs.walk.Walk.close.Goals as goal

pub returns-clause-walk : goal.returns-clause-walk
returns-clause-walk c =
    let w = c.args.self.now in (
      subst (λ n. IsWalkOf (map (λ l. l.items) w.links.now) c.put_all.new.places.items (reverse w.knots.items) c.args.knot.first n) (sym c.in-Some.ensures.1)
          (closed_knot (map (λ l. l.items) w.links.now) w.places.items c.put_all.new.places.items c.args.knot (reverse w.knots.items) w.opened w.closed
          c.requires.none c.put_all.ensures c.requires.walk),
      refl,
    )

pub returns-clause-met : goal.returns-clause-met
returns-clause-met c = put_meets c.args.self.now.places.items c.put_all.new.places.items c.args.knot.things.items c.args.self.now.closed c.put_all.ensures
