use Rattle.std.proofs.Common.{◌≡◌, ◌<◌, ℕ, []}
use Rattle.link_groups.specs.Walks.{IsWalk, place_at}
use Rattle.link_groups.specs.declared.walk.Place.TheVariants.{New}
use Rattle.link_groups.proofs.groups.groups_of.Given as goal

abbrev pub invariant-loop-thing : goal.invariant-loop-thing
invariant-loop-thing l =
    IsWalk l.walk × (l.walk.knots.items ≡ []) × (l.walk.links.now ≡ l.links)
    × ((i : ℕ) → i < l.thing → place_at l.walk.places.items i ≡ New → ⊥)
