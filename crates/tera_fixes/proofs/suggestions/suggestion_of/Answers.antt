use Rattle.tera_fixes.specs.Names.{component_names}
use Rattle.tera_fixes.proofs.ComponentsLemmas.{no_meanings}
use Rattle.tera_fixes.proofs.suggestions.suggestion_of.Goals as goal

pub suggestion_by-requires : goal.suggestion_by-requires
suggestion_by-requires c = no_meanings (component_names c.args.context.catalogue.now) c.new-meanings.result c.new-meanings.ensures.empty
