use Rattle.std.proofs.Common.{◌≡◌, [], map, take}
use Rattle.link_groups.proofs.ends.without_links.Given as goal

abbrev pub invariant-loop-thing : goal.invariant-loop-thing
invariant-loop-thing l = map (λ v. v.items) l.without.items ≡ map (λ v. []) (take l._thing-index l.links)
