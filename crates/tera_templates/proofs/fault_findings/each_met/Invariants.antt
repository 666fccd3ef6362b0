use Rattle.std.proofs.Common.{◌≡◌, map, take}
use Rattle.std.specs.List.{All}
use Rattle.tera_templates.specs.FaultFindings.{IsWordOf}
use Rattle.tera_templates.proofs.fault_findings.each_met.Given as goal

abbrev pub invariant-loop-number : goal.invariant-loop-number
invariant-loop-number l =
    All (λ m. IsWordOf l.source m.cause) l.all.items × (map (λ m. m.fault.now) l.all.items ≡ take l.number l.faults)
