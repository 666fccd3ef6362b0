use Rattle.tera_rules.proofs.JudgedLemmas.{all_found_in}
use Rattle.tera_check.proofs.checked.findings_of_tree.Goals as goal

pub returns : goal.returns
returns c =
    let calls = rw c.as_str-file.ensures.value at c.in_ok-push_calls.ensures in
    let parts = rw c.as_str-file.ensures.value at c.in_ok-push_all_small.ensures in
    all_found_in _ c.push_all_again.new.findings.items c.push_all_unused.new.findings.items c.push_calls.new.findings.items c.push_all_small.new.findings.items _ _ _ _
    c.new-findings.ensures.items c.in_ok-push_all_again.ensures c.in_ok-push_all_unused.ensures calls parts
