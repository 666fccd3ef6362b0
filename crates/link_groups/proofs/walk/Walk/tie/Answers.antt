use Rattle.std.proofs.Common.{◌∙◌, ◌∷◌, append-nil, ap, map, refl, reverse, subst, sym}
use Rattle.link_groups.specs.Walks.{IsWalkOf}
use Rattle.link_groups.proofs.Paths.{pushed, reverse_push}
use Rattle.link_groups.proofs.Steps.{tied_together}
use Rattle.link_groups.proofs.walk.Walk.tie.Goals as goal

pub returns-in_ok-push-in-Some-clause-walk : goal.returns-in_ok-push-in-Some-clause-walk
returns-in_ok-push-in-Some-clause-walk c =
    let w = c.args.self.now in
    let links = map (λ l. l.items) w.links.now in
    let rest = c.pop.new.self.items in
    let t = c.in_ok-together-in-Some.field-0 in (
      pushed links w.places.items rest c.push.new.self.items t w.opened w.closed c.in_ok-push-in-Some.ensures.items
          (tied_together links w.places.items c.args.knot c.in-Some.before t (reverse rest) w.opened w.closed
          c.in_ok-together-in-Some.ensures.0 c.in_ok-together-in-Some.ensures.1 c.in_ok-together-in-Some.ensures.2 c.requires.back
          (subst (λ ks. IsWalkOf links w.places.items (c.args.knot ∷ ks) w.opened w.closed)
          (ap reverse c.in-Some.ensures.items ∙ reverse_push rest c.in-Some.before) c.requires.walk)),
      refl,
    )

pub returns-in_ok-push-in-None-clause-walk : goal.returns-in_ok-push-in-None-clause-walk
returns-in_ok-push-in-None-clause-walk c =
    let w = c.args.self.now in
    let links = map (λ l. l.items) w.links.now in
    let rest = c.pop.new.self.items in (
      pushed links w.places.items rest c.push-in-None.new.self.items c.args.knot w.opened w.closed c.in_ok-push-in-None.ensures.items
          (subst (λ ks. IsWalkOf links w.places.items (c.args.knot ∷ reverse ks) w.opened w.closed)
          (c.in-None.ensures.items ∙ append-nil rest) c.requires.walk),
      refl,
    )
