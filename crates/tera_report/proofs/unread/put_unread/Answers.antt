use Rattle.json_members.proofs.Putting.{then_token, then_all, token}
use Rattle.tera_report.specs.Unread.{unread_result}
use Rattle.tera_report.proofs.unread.put_unread.Goals as goal

pub returns : goal.returns
unfolding unread_result
returns c =
    then_token _ c.in_ok-begin_object.ensures (then_all _ c.in_ok-put_text.ensures (then_all _ c.in_ok-put_text-2.ensures
    (then_all _ c.in_ok-put_message.ensures (then_all _ (rw c.first_span.ensures at c.in_ok-put_locations.ensures)
    (token _ c.end_object.ensures)))))
