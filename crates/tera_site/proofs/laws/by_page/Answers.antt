use Rattle.tera_site.proofs.PageAgreement.{due_on_page}
use Rattle.tera_site.proofs.laws.by_page.Goals as goal

pub returns : goal.returns
returns c = λ a t. due_on_page a t
