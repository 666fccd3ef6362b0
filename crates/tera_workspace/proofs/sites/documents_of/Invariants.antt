use Rattle.tera_workspace.proofs.KeptSiteLemmas.{AreKeptSoFar}
use Rattle.tera_workspace.proofs.sites.documents_of.Given as goal

abbrev pub invariant-loop-number : goal.invariant-loop-number
invariant-loop-number l = AreKeptSoFar l.site l.below.items l.number l.documents.items
