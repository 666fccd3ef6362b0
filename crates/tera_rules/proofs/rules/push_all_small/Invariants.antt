use Rattle.std.proofs.Common.{◌≡◌, ◌++◌, map}
use Rattle.std.specs.List.{flat_map}
use Rattle.tera_tree.specs.Outputs.{output_view}
use Rattle.tera_tree.specs.Parts.{parts_view}
use Rattle.tera_findings.specs.Findings.{finding_view}
use Rattle.tera_rules.specs.RepeatedConditions.{IsKeptFor}
use Rattle.tera_rules.specs.Rules.{part_findings, small_findings}
use Rattle.tera_rules.specs.Within.{all_parts}
use Rattle.tera_rules.proofs.rules.push_all_small.Given as goal

abbrev pub invariant-loop-part : goal.invariant-loop-part
invariant-loop-part l =
    (map finding_view l.findings.items ++ flat_map (part_findings l.file) (all_parts (parts_view l.left.items))
    ≡ map finding_view l.fn.findings.items ++ small_findings l.file (output_view l.output))
    × IsKeptFor l.chain (parts_view l.left.items)
