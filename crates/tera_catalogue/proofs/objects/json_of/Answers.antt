use Rattle.std.proofs.Common.{rules}
use Rattle.tera_catalogue.specs.Objects.{object_of}
use Rattle.tera_catalogue.proofs.StepLemmas.{flat_next}
use Rattle.tera_catalogue.proofs.objects.json_of.Goals as goal

pub loop-component-preserved : goal.loop-component-preserved
loop-component-preserved c =
    flat_next object_of c.args.components.now c.loop-component.component-index c.component-item.result _ _ _ (search rules) c.component-item.is c.loop-component.invariant c.in_ok-write_component.ensures
