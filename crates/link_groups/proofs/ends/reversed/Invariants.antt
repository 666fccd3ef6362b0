use Rattle.std.proofs.Common.{map}
use Rattle.link_groups.proofs.EndLemmas.{AreReversedTo}
use Rattle.link_groups.proofs.ends.reversed.Given as goal

abbrev pub invariant-loop-thing : goal.invariant-loop-thing
invariant-loop-thing l = AreReversedTo (map (λ v. v.items) l.links) l.thing (map (λ v. v.items) l.reversed.items)
