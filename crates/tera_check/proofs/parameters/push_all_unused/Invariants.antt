use Rattle.std.proofs.Common.{◌≡◌, ◌++◌, drop, map}
use Rattle.std.specs.List.{flat_map}
use Rattle.tera_tree.specs.View.{definition_view}
use Rattle.tera_findings.specs.Findings.{finding_view}
use Rattle.tera_check.specs.Named.{known_in, taken_in}
use Rattle.tera_check.specs.Parameters.{parameter_at, unused_in}
use Rattle.tera_check.proofs.parameters.push_all_unused.Given as goal

abbrev pub invariant-loop-definition : goal.invariant-loop-definition
invariant-loop-definition l =
    map finding_view l.initial.findings.items ++ flat_map (unused_in (taken_in (known_in l.catalogue)) (parameter_at l.template)) (map definition_view l.definition-items)
    ≡ map finding_view l.findings.items ++ flat_map (unused_in (taken_in (known_in l.catalogue)) (parameter_at l.template)) (map definition_view (drop l.definition-index l.definition-items))
