use Rattle.tera_workspace.specs.Kept.{sources_of}
use Rattle.tera_workspace.proofs.NamedLemmas.{named_by_fits}
use Rattle.tera_workspace.proofs.laws.named_in_site.Goals as goal

pub returns : goal.returns
returns c = λ s w fits. named_by_fits w.encoding (sources_of w.judged.items) w.documents w.judged.items s w.ordered fits
