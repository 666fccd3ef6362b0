use Rattle.tera_jobs.proofs.Joined.{joined_more}
use Rattle.tera_jobs.proofs.counting.laid_out_line.Goals as goal

pub returns : goal.returns
returns c =
    joined_more _ _ _ _ _ _ _ _ _ _ c.in_ok-line.ensures (rw c.done.ensures at c.in_ok-push_str.ensures.bytes)
    (rw c.left.ensures at c.in_ok-push_number.ensures) c.in_ok-push_count.ensures c.in_ok-push_count-2.ensures
