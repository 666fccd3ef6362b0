use Rattle.std.proofs.Common.{◌≡◌, ◌<◌, ℕ, List, get_or}
use Rattle.link_groups.specs.Groups.{AreGroups, Reaches, links_at}
use Rattle.link_groups.proofs.circles.is_on_circle.Given as goal

abbrev pub invariant-loop-other : goal.invariant-loop-other
invariant-loop-other l =
    (all : List (List ℕ)) → AreGroups all l.groups.items → links_at all l.thing ≡ l.links.items
    → (k : ℕ) → k < l.other-index → Reaches all (get_or l.links.items k 0) l.thing → ⊥
