use Rattle.tera_editor.specs.Sites.{NoneBefore}
use Rattle.tera_editor.proofs.sites.Sites.number_of.Given as goal

abbrev pub invariant-loop-number : goal.invariant-loop-number
invariant-loop-number l = NoneBefore l.folder l.self.all.items l.number
