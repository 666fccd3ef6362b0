use Rattle.std.proofs.Common.{◌++◌, ap, map, sym}
use Rattle.tera_rules.specs.Judged.{known_view}
use Rattle.tera_check.specs.Named.{defined_from}
use Rattle.tera_catalogue.proofs.components.push_defined.Goals as goal

pub loop-at-init : goal.loop-at-init
loop-at-init c =
    ap (λ ds. map known_view c.args.known.now.items ++ defined_from c.args.number c.args.template.now 0 ds) (sym c.definitions_of-definition-items.ensures)
