use Rattle.tera_workspace.specs.Kept.{sources_of, templates_of}
use Rattle.tera_workspace.proofs.DefinedLemmas.{parameter_there}
use Rattle.tera_workspace.proofs.laws.parameters_are_defined.Goals as goal

pub returns : goal.returns
returns c = λ w n p there. parameter_there w.encoding (sources_of w.judged.items) (templates_of w.judged.items) n p there
