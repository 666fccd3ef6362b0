use Rattle.std.proofs.Common.{rules}
use Rattle.tera_catalogue.specs.Pages.{section_of}
use Rattle.tera_catalogue.proofs.StepLemmas.{flat_next}
use Rattle.tera_catalogue.proofs.pages.push_sections.Goals as goal

pub loop-component-preserved : goal.loop-component-preserved
loop-component-preserved c =
    flat_next section_of c.args.components.now c.loop-component.component-index c.component-item.result _ _ _ (search rules) c.component-item.is c.loop-component.invariant c.in_ok-push_section.ensures
