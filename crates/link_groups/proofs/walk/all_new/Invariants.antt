use Rattle.std.proofs.Common.{◌≡◌, map, take}
use Rattle.link_groups.specs.declared.walk.Place.TheVariants.{New}
use Rattle.link_groups.proofs.walk.all_new.Given as goal

abbrev pub invariant-loop-thing : goal.invariant-loop-thing
invariant-loop-thing l = l.places.items ≡ map (λ _. New) (take l._thing-index l.links)
