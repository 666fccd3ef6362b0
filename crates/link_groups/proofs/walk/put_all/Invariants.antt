use Rattle.std.proofs.Common.{take}
use Rattle.link_groups.specs.Walks.{ArePutIn}
use Rattle.link_groups.proofs.walk.put_all.Given as goal

abbrev pub invariant-loop-thing : goal.invariant-loop-thing
invariant-loop-thing l = ArePutIn l.fn.places.items (take l.thing-index l.thing-items) l.group l.places.items
