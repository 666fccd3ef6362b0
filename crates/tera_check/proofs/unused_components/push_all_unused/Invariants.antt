use Rattle.std.proofs.Common.{◌≡◌, ◌++◌, drop, map}
use Rattle.tera_tree.specs.View.{definition_view}
use Rattle.tera_findings.specs.Findings.{finding_view}
use Rattle.tera_templates.specs.Templates.{definitions_of}
use Rattle.tera_check.specs.Named.{span_at}
use Rattle.tera_check.specs.UnusedComponents.{is_called, unused_components}
use Rattle.tera_check.proofs.unused_components.push_all_unused.Given as goal

abbrev pub invariant-loop-at : goal.invariant-loop-at
invariant-loop-at l =
    map finding_view l.initial.findings.items ++ unused_components (is_called l.called) (span_at l.template) 0 (definitions_of l.template)
    ≡ map finding_view l.findings.items ++ unused_components (is_called l.called) (span_at l.template) l.at (map definition_view (drop l.at l.definition-items))
