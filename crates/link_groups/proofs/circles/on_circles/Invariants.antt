use Rattle.std.proofs.Common.{◌≡◌, ◌<◌, ℕ, true, false, get_or, length, map}
use Rattle.std.specs.Prelude.{◌↔◌}
use Rattle.link_groups.specs.Groups.{IsOnCircle}
use Rattle.link_groups.proofs.circles.on_circles.Given as goal

abbrev pub invariant-loop-thing : goal.invariant-loop-thing
invariant-loop-thing l =
    (length l.on.items ≡ l.thing)
    × ((i : ℕ) → i < l.thing → (get_or l.on.items i false ≡ true) ↔ IsOnCircle (map (λ v. v.items) l.links) i)
