use Rattle.tera_layout.proofs.Narrowed.{narrowed_respaced}
use Rattle.tera_layout.proofs.laws.narrowed.Goals as goal

pub returns : goal.returns
returns c = λ m valid steady ps qs one h w. narrowed_respaced m valid steady ps qs one h w
