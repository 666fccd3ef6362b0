use Rattle.tera_fixes.specs.Components.{AreMeanings}
use Rattle.tera_fixes.specs.Names.{component_names}
use Rattle.tera_jobs.proofs.fixing.fixes_of.Given as goal

abbrev pub invariant-loop-number : goal.invariant-loop-number
invariant-loop-number l = AreMeanings (component_names l.known.catalogue.now) l.meanings
