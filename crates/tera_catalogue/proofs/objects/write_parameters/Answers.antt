use Rattle.std.proofs.Common.{rules}
use Rattle.tera_tree.specs.Infos.{arg_view}
use Rattle.tera_catalogue.specs.Listed.{listed_view}
use Rattle.tera_catalogue.specs.Objects.{parameter}
use Rattle.tera_catalogue.proofs.StepLemmas.{map_next}
use Rattle.tera_catalogue.proofs.objects.write_parameters.Goals as goal

pub loop-argument-preserved : goal.loop-argument-preserved
loop-argument-preserved c =
    map_next (parameter (listed_view c.args.component.now)) arg_view c.args-argument-items.result.now c.loop-argument.argument-index c.argument-item.result _ _ _ (search rules) c.argument-item.is c.loop-argument.invariant c.in_ok-write_parameter.ensures
