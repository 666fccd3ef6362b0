use Rattle.tera_workspace.specs.Kept.{sources_of, templates_of}
use Rattle.tera_workspace.proofs.DefinedLemmas.{reported_of_defined}
use Rattle.tera_workspace.proofs.laws.components_are_defined.Goals as goal

pub returns : goal.returns
returns c = λ w n there. reported_of_defined w.encoding (sources_of w.judged.items) (templates_of w.judged.items) n there
