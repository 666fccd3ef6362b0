use Rattle.std.proofs.Common.{◌∙◌, ◌++◌, ap, map, sym}
use Rattle.tera_findings.specs.Findings.{finding_view}
use Rattle.tera_check.specs.Named.{span_at}
use Rattle.tera_check.specs.UnusedComponents.{is_called, unused_component_if, unused_components}
use Rattle.tera_check.proofs.UnusedLemmas.{unused_next}
use Rattle.tera_check.proofs.unused_components.push_all_unused.Goals as goal

pub loop-at-init : goal.loop-at-init
loop-at-init c =
    ap (λ ds. map finding_view c.args.findings.now.items ++ unused_components (is_called c.args.called.now) (span_at c.args.template.now) 0 ds)
    (sym c.definitions_of-definition-items.ensures)

pub loop-at-preserved : goal.loop-at-preserved
loop-at-preserved c =
    let called = is_called c.args.called.now in
    let now = map finding_view c.loop-at.findings.items in
    unused_next called (span_at c.args.template.now) c.definitions_of-definition-items.result.now c.loop-at.at c.definition-item.result _ now (map finding_view c.push_if_unused.new.findings.items)
    c.loop-at-test.true c.definition-item.is c.loop-at.invariant
    (c.in_ok-push_if_unused.ensures ∙ λ i. now ++ unused_component_if called (c.as_str.ensures.value i) (c.defined_at-span.ensures i))
