use Rattle.tera_workspace.proofs.OthersNear.{OthersSoFar}
use Rattle.tera_workspace.proofs.near.others_of.Given as goal

abbrev pub invariant-loop-place : goal.invariant-loop-place
invariant-loop-place l = OthersSoFar l.kept.items l.near.items l.documents.items l.place l.others.items
