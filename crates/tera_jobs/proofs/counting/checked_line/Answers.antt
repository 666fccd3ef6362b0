use Rattle.tera_jobs.proofs.Joined.{joined}
use Rattle.tera_jobs.proofs.counting.checked_line.Goals as goal

pub returns : goal.returns
returns c =
    joined _ _ _ _ _ _ _ _ c.in_ok-line.ensures c.in_ok-push_str.ensures.bytes c.in_ok-push_findings.ensures c.in_ok-push_count.ensures
