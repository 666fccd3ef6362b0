use Rattle.std.proofs.Common.{◌≡◌, ◌++◌, drop, map}
use Rattle.tera_tree.specs.View.{definition_view}
use Rattle.tera_findings.specs.Findings.{finding_view}
use Rattle.tera_rules.specs.Judged.{again_findings}
use Rattle.tera_check.specs.Named.{known_in, span_at}
use Rattle.tera_check.proofs.checked.push_all_again.Given as goal

abbrev pub invariant-loop-at : goal.invariant-loop-at
invariant-loop-at l =
    map finding_view l.initial.findings.items ++ again_findings (known_in l.catalogue) l.number (span_at l.template) 0 (map definition_view l.output.component_definitions.items)
    ≡ map finding_view l.findings.items ++ again_findings (known_in l.catalogue) l.number (span_at l.template) l.at (map definition_view (drop l.at l.output.component_definitions.items))
