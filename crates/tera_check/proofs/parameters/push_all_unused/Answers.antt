use Rattle.std.proofs.Common.{◌++◌, map}
use Rattle.std.specs.List.{flat_map}
use Rattle.tera_tree.specs.View.{definition_view}
use Rattle.tera_findings.specs.Findings.{finding_view}
use Rattle.tera_check.specs.Named.{known_in, taken_in}
use Rattle.tera_check.specs.Parameters.{parameter_at, unused_in}
use Rattle.tera_check.proofs.ParametersLemmas.{definition_next}
use Rattle.tera_check.proofs.parameters.push_all_unused.Goals as goal

pub loop-definition-preserved : goal.loop-definition-preserved
loop-definition-preserved c =
    let ds = c.deref-definition-items.result.now in
    let found = unused_in (taken_in (known_in c.args.catalogue.now)) (parameter_at c.args.template.now) in
    definition_next found (map finding_view c.args.findings.now.items ++ flat_map found (map definition_view ds)) (map finding_view c.loop-definition.findings.items)
    (map finding_view c.push_unused.new.findings.items) ds c.loop-definition.definition-index c.definition-item.result c.loop-definition-test.true c.definition-item.is
    c.loop-definition.invariant c.in_ok-push_unused.ensures
