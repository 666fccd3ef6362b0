use Rattle.std.proofs.Common.{rules}
use Rattle.tera_templates.specs.FaultFindings.{IsWordOf}
use Rattle.tera_templates.proofs.FaultFindingsLemmas.{met_more}
use Rattle.tera_templates.proofs.fault_findings.each_met.Goals as goal

pub loop-number-preserved : goal.loop-number-preserved
loop-number-preserved c =
    met_more (λ m. IsWordOf c.args.source.now m.cause) c.loop-number.all.items c.push.new.self.items _ c.args.faults.now c.loop-number.number c.index-faults-number.result
    c.loop-number.invariant.0 c.loop-number.invariant.1 c.in_ok-push.ensures.items c.cause_of.ensures c.loop-number-test.true (search rules)
