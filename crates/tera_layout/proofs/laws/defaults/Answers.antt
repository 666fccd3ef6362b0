use Rattle.tera_layout.proofs.Layouts.{default_joins}
use Rattle.tera_layout.proofs.laws.defaults.Goals as goal

pub returns : goal.returns
returns c = λ l r more rest before left right. default_joins l r more rest before left right
