use Rattle.tera_layout.proofs.Narrowed.{widened_respaced}
use Rattle.tera_layout.proofs.laws.widened.Goals as goal

pub returns : goal.returns
returns c = λ m valid steady ps qs one h w. widened_respaced m valid steady ps qs one h w
