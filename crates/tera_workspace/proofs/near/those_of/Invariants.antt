use Rattle.std.proofs.Common.{map}
use Rattle.tera_workspace.proofs.NearSteps.{ThoseSoFar}
use Rattle.tera_workspace.proofs.near.those_of.Given as goal

abbrev pub invariant-loop-number : goal.invariant-loop-number
invariant-loop-number l = ThoseSoFar l.near.items (map (λ j. j.now) l.below.items) l.number-index (map (λ j. j.now) l.those.items)
