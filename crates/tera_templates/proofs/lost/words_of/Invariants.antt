use Rattle.tera_templates.proofs.WordLemmas.{Begun}
use Rattle.tera_templates.proofs.lost.words_of.Given as goal

abbrev pub invariant-loop-at : goal.invariant-loop-at
invariant-loop-at l = Begun l.text l.words.items l.start l.at
