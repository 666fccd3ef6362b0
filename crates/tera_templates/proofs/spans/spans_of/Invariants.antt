use Rattle.std.proofs.Common.{◌≡◌, ◌++◌, drop, map}
use Rattle.tera_tags.specs.Known.{located_of}
use Rattle.tera_tree.specs.View.{definition_view}
use Rattle.tera_findings.specs.Findings.{span_if_any}
use Rattle.tera_templates.proofs.spans.spans_of.Given as goal

abbrev pub invariant-definitions : goal.invariant-definitions
invariant-definitions l =
    map (λ d. span_if_any (located_of l.names.components d.name)) (map definition_view l.definition-items)
    ≡ l.spans.items ++ map (λ d. span_if_any (located_of l.names.components d.name)) (map definition_view (drop l.definition-index l.definition-items))
