use Rattle.std.proofs.Common.{Result, Ok, Err, OnOk, refl}
use Rattle.tera_site.specs.Found.{IsWith}
use Rattle.tera_site.specs.Views.{around_view}
use Rattle.tera_site.proofs.FoundLemmas.{is_with}
use Rattle.tera_site.proofs.found.add_to.Goals as goal

pub returns : goal.returns
returns c = is_with c.add_found.result (around_view c.args.around) c.args.template.now c.args.found.now c.add_found.new.findings c.add_found.ensures.ordered c.add_found.ensures.found
