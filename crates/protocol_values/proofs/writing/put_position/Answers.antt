use Rattle.json_members.proofs.Putting.{then_all, token}
use Rattle.protocol_values.proofs.writing.put_position.Goals as goal

pub returns : goal.returns
returns c =
    then_all _ c.in_ok-put_tokens.ensures (then_all _ c.in_ok-put_number.ensures (then_all _ c.in_ok-put_number-2.ensures
    (token _ c.end_object.ensures)))
