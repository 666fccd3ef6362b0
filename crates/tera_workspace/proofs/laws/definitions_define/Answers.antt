use Rattle.tera_workspace.specs.Kept.{sources_of, templates_of}
use Rattle.tera_workspace.proofs.DefinedLemmas.{reported_there}
use Rattle.tera_workspace.proofs.laws.definitions_define.Goals as goal

pub returns : goal.returns
returns c = λ w n d is. reported_there w.encoding (sources_of w.judged.items) (templates_of w.judged.items) n d is
