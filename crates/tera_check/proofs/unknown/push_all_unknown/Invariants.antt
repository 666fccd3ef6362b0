use Rattle.std.proofs.Common.{◌≡◌, ◌++◌, map}
use Rattle.std.specs.List.{flat_map}
use Rattle.tera_tree.specs.Outputs.{output_view}
use Rattle.tera_tree.specs.Parts.{parts_view}
use Rattle.tera_findings.specs.Findings.{finding_view}
use Rattle.tera_rules.specs.Registered.{registered_view}
use Rattle.tera_check.specs.Unknown.{unknown_findings, unknown_in}
use Rattle.tera_rules.specs.Within.{all_parts}
use Rattle.tera_check.proofs.unknown.push_all_unknown.Given as goal

abbrev pub invariant-loop-part : goal.invariant-loop-part
invariant-loop-part l =
    map finding_view l.findings.items ++ flat_map (unknown_in (registered_view l.registered)) (all_parts (parts_view l.left.items))
    ≡ map finding_view l.fn.findings.items ++ unknown_findings (registered_view l.registered) (output_view l.output)
