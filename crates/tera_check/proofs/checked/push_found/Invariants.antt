use Rattle.std.proofs.Common.{◌≡◌, ◌++◌, drop, map}
use Rattle.std.specs.List.{flat_map}
use Rattle.tera_findings.specs.Findings.{finding_view}
use Rattle.tera_rules.specs.Judged.{call_findings}
use Rattle.tera_check.specs.Named.{known_in}
use Rattle.tera_rules.specs.Pending.{seen}
use Rattle.tera_check.proofs.checked.push_found.Given as goal

abbrev pub invariant-loop-call : goal.invariant-loop-call
invariant-loop-call l =
    map finding_view l.initial.findings.items ++ flat_map (call_findings l.file (known_in l.catalogue)) (map seen l.call-items)
    ≡ map finding_view l.findings.items ++ flat_map (call_findings l.file (known_in l.catalogue)) (map seen (drop l.call-index l.call-items))
