use Rattle.json_members.proofs.Putting.{then_token, then_all, token}
use Rattle.tera_report.specs.Logs.{result_object}
use Rattle.tera_report.proofs.sarif.put_result.Goals as goal

pub returns : goal.returns
unfolding result_object
returns c =
    then_token _ c.in_ok-begin_object.ensures (then_all _ (rw c.name.ensures at c.in_ok-put_text.ensures)
    (then_all _ (rw c.name-2.ensures at c.in_ok-put_text-2.ensures)
    (then_all _ (rw c.as_str.ensures.value at c.in_ok-put_message.ensures) (then_all _ c.in_ok-put_locations.ensures
    (then_all _ c.in_ok-put_notes.ensures (token _ c.end_object.ensures))))))
