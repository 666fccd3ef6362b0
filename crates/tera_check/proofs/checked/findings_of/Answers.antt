use Rattle.tera_check.proofs.CheckedLemmas.{all_sorted}
use Rattle.tera_check.proofs.checked.findings_of.Goals as goal

pub returns-clause-found : goal.returns-clause-found
returns-clause-found c =
    all_sorted c.args.template.now c.in_ok-findings.findings.items c.push_all_due.new.findings.items c.put_in_order.new.findings.items _
    c.in_ok-findings.ensures c.in_ok-push_all_due.ensures c.in_ok-put_in_order.ensures.same
