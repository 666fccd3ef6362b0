use Rattle.tera_check.specs.Named.{known_in}
use Rattle.tera_check.proofs.FoundLemmas.{found_of_checked}
use Rattle.tera_check.proofs.found.found_in.Goals as goal

pub returns-then-number-checked : goal.returns-then-number-checked
returns-then-number-checked c =
    found_of_checked (known_in c.args.catalogue.now) c.args.is_open c.args.checked c.args.number c.args.template.now c.findings_of.result c.if-number-checked.true c.findings_of.ensures.ordered c.findings_of.ensures.found
