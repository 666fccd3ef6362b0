use Rattle.std.proofs.Common.{ap, sym}
use Rattle.tera_check.specs.Named.{known_in, defined_from, first_named, or_else}
use Rattle.tera_check.proofs.catalogue.add_definitions.Goals as goal

pub loop-at-init : goal.loop-at-init
loop-at-init c = λ n.
    ap (λ ds. or_else (known_in c.args.catalogue.now n) (first_named n (defined_from c.args.number c.args.template.now 0 ds))) (sym c.definitions_of-definition-items.ensures)
