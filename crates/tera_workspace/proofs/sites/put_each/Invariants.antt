use Rattle.tera_workspace.proofs.NearSteps.{PutSoFar}
use Rattle.tera_workspace.proofs.sites.put_each.Given as goal

abbrev pub invariant-loop-at : goal.invariant-loop-at
invariant-loop-at l = PutSoFar l.fn.documents.items l.near.items l.initial.those.items l.at l.documents.items l.those.items
