use Rattle.tera_check.specs.Due.{is_due}
use Rattle.tera_check.proofs.DueLemmas.{due_more}
use Rattle.tera_check.proofs.due.push_due.Goals as goal

pub loop-finding-preserved : goal.loop-finding-preserved
loop-finding-preserved c =
    due_more (is_due c.args.is_open c.args.template.now) _ _ _ c.loop-finding.yielded c.in-Some.finding c.loop-finding.invariant c.in_ok-push_if_due.ensures
