use Rattle.std.proofs.Common.{rules}
use Rattle.tera_tree.specs.Infos.{arg_view}
use Rattle.tera_catalogue.specs.Pages.{row}
use Rattle.tera_catalogue.proofs.StepLemmas.{map_next}
use Rattle.tera_catalogue.proofs.cells.push_rows.Goals as goal

pub loop-argument-preserved : goal.loop-argument-preserved
loop-argument-preserved c =
    map_next row arg_view c.args.arguments.now c.loop-argument.argument-index c.argument-item.result _ _ _ (search rules) c.argument-item.is c.loop-argument.invariant c.in_ok-push_row.ensures
