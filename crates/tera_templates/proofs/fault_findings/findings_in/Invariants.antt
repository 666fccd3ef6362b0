use Rattle.std.proofs.Common.{map, take}
use Rattle.std.specs.List.{All}
use Rattle.tera_templates.specs.FaultFindings.{AreOfEach, IsAt, IsWordOf}
use Rattle.tera_findings.specs.Findings.{finding_view}
use Rattle.tera_templates.proofs.fault_findings.findings_in.Given as goal

-- the walk is in the source, and each fault so far has its finding
abbrev pub invariant-loop-met : goal.invariant-loop-met
invariant-loop-met l =
    All (λ m. IsWordOf l.source m.cause) l.all
    → IsAt l.source l.walk × AreOfEach l.file l.source (map (λ m. m.fault.now) (take l.met-index l.all)) (map finding_view l.findings.items)
