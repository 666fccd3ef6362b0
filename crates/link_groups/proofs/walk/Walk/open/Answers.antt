use Rattle.std.proofs.Common.{◌≡◌, ◌∙◌, ◌∷◌, ap, map, refl, reverse, set, subst, sym}
use Rattle.link_groups.specs.Walks.{IsWalkOf, MeetsMore, place_at}
use Rattle.link_groups.specs.declared.walk.Place.TheVariants.{New, Open}
use Rattle.link_groups.proofs.Paths.{opened_meets, pushed}
use Rattle.link_groups.proofs.Steps.{opened}
use Rattle.link_groups.proofs.walk.Walk.open.Goals as goal

pub returns-clause-walk : goal.returns-clause-walk
returns-clause-walk c =
    let w = c.args.self.now in
    let links = map (λ l. l.items) w.links.now in
    let ps = set w.places.items c.args.thing (Open w.opened) in
    let k = c.in_ok-knot.knot in
    let begun = opened links w.places.items (reverse w.knots.items) c.args.thing w.opened w.closed k c.requires.new
    c.in_ok-knot.ensures.0 c.in_ok-knot.ensures.1 (ap (λ v. v.items) c.in_ok-knot.ensures.2 ∙ c.in_ok-links_of.ensures) c.requires.from c.requires.walk in (
      subst (λ qs. IsWalkOf links qs (reverse c.push.new.self.items) c.in-Some.opened w.closed) (sym c.put_place.ensures)
          (pushed links ps w.knots.items c.push.new.self.items k c.in-Some.opened w.closed c.in_ok-push.ensures.items
          (subst (λ n. IsWalkOf links ps (k ∷ reverse w.knots.items) n w.closed) (sym c.in-Some.ensures.1) begun)),
      refl,
    )

pub returns-clause-met : goal.returns-clause-met
returns-clause-met c =
    let w = c.args.self.now in
    subst (λ qs. MeetsMore w.places.items qs × (place_at qs c.args.thing ≡ New → ⊥)) (sym c.put_place.ensures)
    (opened_meets (map (λ l. l.items) w.links.now) w.places.items c.args.thing w.opened c.requires.new)
