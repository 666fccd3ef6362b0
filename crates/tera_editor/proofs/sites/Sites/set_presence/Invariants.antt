use Rattle.tera_editor.specs.Sites.{used_view}
use Rattle.tera_editor.proofs.SiteLemmas.{SaidSoFar}
use Rattle.tera_editor.proofs.sites.Sites.set_presence.Given as goal

abbrev pub invariant-loop-number : goal.invariant-loop-number
invariant-loop-number l = SaidSoFar l.number (used_view l.used) l.is_there l.initial.self l.self
