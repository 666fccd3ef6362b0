use Rattle.std.proofs.Common.{map, take}
use Rattle.link_groups.specs.Ends.{AddsEnds}
use Rattle.link_groups.proofs.ends.push_ends.Given as goal

abbrev pub invariant-loop-end : goal.invariant-loop-end
invariant-loop-end l =
    AddsEnds (map (λ v. v.items) l.fn.reversed.items) (take l.end-index l.end-items) l.thing (map (λ v. v.items) l.reversed.items)
