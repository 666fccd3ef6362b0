use Rattle.json_members.proofs.Putting.{then_token, then_all, token}
use Rattle.tera_report.specs.Logs.{note_object}
use Rattle.tera_report.proofs.sarif.put_note.Goals as goal

pub returns : goal.returns
unfolding note_object
returns c =
    then_token _ c.in_ok-begin_object.ensures (then_all _ (rw c.as_str.ensures.value at c.in_ok-put_place.ensures)
    (then_all _ (rw c.as_str-2.ensures.value at c.in_ok-put_message.ensures) (token _ c.end_object.ensures)))
