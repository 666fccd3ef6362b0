use Rattle.tera_fixes.specs.Components.{AreMeanings}
use Rattle.tera_fixes.specs.Names.{component_names}
use Rattle.tera_jobs.proofs.fixing.fix_of.Given as goal

abbrev pub invariant-loop-choice : goal.invariant-loop-choice
invariant-loop-choice l = AreMeanings (component_names l.known.catalogue.now) l.meanings
