use Rattle.tera_editor.proofs.SiteLemmas.{AssumedSoFar}
use Rattle.tera_editor.proofs.sites.Sites.assume.Given as goal

abbrev pub invariant-loop-number : goal.invariant-loop-number
invariant-loop-number l = AssumedSoFar l.number l.some l.initial.self l.self
