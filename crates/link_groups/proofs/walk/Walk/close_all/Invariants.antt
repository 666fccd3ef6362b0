use Rattle.std.proofs.Common.{◌≡◌}
use Rattle.link_groups.specs.Walks.{IsWalk, MeetsMore}
use Rattle.link_groups.proofs.walk.Walk.close_all.Given as goal

abbrev pub invariant-loop-step : goal.invariant-loop-step
invariant-loop-step l =
    IsWalk l.self × (l.self.links ≡ l.fn.self.links) × MeetsMore l.fn.self.places.items l.self.places.items
