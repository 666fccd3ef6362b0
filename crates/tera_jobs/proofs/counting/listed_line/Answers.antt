use Rattle.tera_jobs.proofs.Joined.{joined_more}
use Rattle.tera_jobs.proofs.counting.listed_line.Goals as goal

pub returns : goal.returns
returns c =
    joined_more _ _ _ _ _ _ _ _ _ _ c.in_ok-line.ensures c.in_ok-push_str.ensures.bytes c.in_ok-push_counted.ensures c.in_ok-push_count.ensures
    c.in_ok-push_count-2.ensures
