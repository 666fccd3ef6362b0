use Rattle.tera_check.proofs.CheckedLemmas.{faults_sorted}
use Rattle.tera_check.proofs.checked.faults_of.Goals as goal

pub returns-clause-faults : goal.returns-clause-faults
returns-clause-faults c =
    faults_sorted c.args.template.now c.in_ok-findings.findings.items c.put_in_order.new.findings.items c.in_ok-findings.ensures c.in_ok-put_in_order.ensures.same
