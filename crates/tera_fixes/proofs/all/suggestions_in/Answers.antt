use Rattle.tera_fixes.specs.Names.{component_names}
use Rattle.tera_fixes.proofs.ComponentsLemmas.{no_meanings}
use Rattle.tera_fixes.proofs.all.suggestions_in.Goals as goal

pub suggestions_by-requires : goal.suggestions_by-requires
suggestions_by-requires c = no_meanings (component_names c.args.catalogue.now) c.new-meanings.result c.new-meanings.ensures.empty
