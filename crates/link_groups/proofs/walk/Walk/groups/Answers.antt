use Rattle.std.proofs.Common.{◌∙◌, ap, arith, map}
use Rattle.std.proofs.lemmas.List.{length-map, take_all}
use Rattle.link_groups.specs.Walks.{group_at}
use Rattle.link_groups.proofs.Paths.{grouped}
use Rattle.link_groups.proofs.walk.Walk.groups.Goals as goal

pub returns : goal.returns
returns c =
    let w = c.args.self.now in
    grouped (map (λ l. l.items) w.links.now) w.places.items w.knots.items w.opened w.closed c.loop-place.groups.items c.requires.path c.requires.walk
    (λ i inside. c.requires.none i (let l = length-map w.links.now (λ v. v.items) in omega (arith, inside, l)))
    (c.loop-place.invariant ∙ ap (map group_at) (take_all c.loop-place.place-index c.deref-place-items.result.now c.loop-place-test.false ∙ c.deref-place-items.ensures.value))
