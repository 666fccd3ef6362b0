use Rattle.std.proofs.Common.{◌≡◌, map, take}
use Rattle.link_groups.specs.Walks.{group_at}
use Rattle.link_groups.proofs.walk.Walk.groups.Given as goal

abbrev pub invariant-loop-place : goal.invariant-loop-place
invariant-loop-place l = l.groups.items ≡ map group_at (take l.place-index l.place-items)
