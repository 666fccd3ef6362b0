use Rattle.tera_editor.proofs.SiteLemmas.{AskedSoFar}
use Rattle.tera_editor.proofs.sites.Sites.look_again.Given as goal

abbrev pub invariant-loop-number : goal.invariant-loop-number
invariant-loop-number l = AskedSoFar l.number l.initial.self l.self
