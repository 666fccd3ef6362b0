use Rattle.tera_site.proofs.SiteLemmas.{names_alike}
use Rattle.tera_site.proofs.laws.by_names.Goals as goal

pub returns : goal.returns
returns c = λ a b span o h. names_alike a b span o h
