use Rattle.tera_fixes.specs.Names.{component_names}
use Rattle.tera_fixes.proofs.ComponentsLemmas.{no_meanings}
use Rattle.tera_jobs.proofs.fixing.fixes_of.Goals as goal

pub loop-number-init : goal.loop-number-init
loop-number-init c = no_meanings (component_names c.in_ok-catalogue.catalogue) c.new-meanings.result c.new-meanings.ensures.empty
