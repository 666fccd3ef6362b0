use Rattle.std.proofs.Common.{◌≡◌, ◌++◌, drop, map}
use Rattle.std.specs.List.{flat_map}
use Rattle.tera_findings.specs.Findings.{finding_view}
use Rattle.tera_c.specs.FilesTogether.{finding_line}
use Rattle.tera_c.proofs.findings.push_lines.Given as goal

abbrev pub invariant-loop-finding : goal.invariant-loop-finding
invariant-loop-finding l =
    l.initial.text.items ++ flat_map (finding_line l.file) (map finding_view l.finding-items)
    ≡ l.text.items ++ flat_map (finding_line l.file) (map finding_view (drop l.finding-index l.finding-items))
