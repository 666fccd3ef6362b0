use Rattle.json_members.proofs.Putting.{token, then_token, then_all}
use Rattle.tera_tree_json.proofs.fields.put_span.Goals as goal

pub returns : goal.returns
returns c =
    then_token _ c.in_ok-begin_object.ensures (then_all _ c.in_ok-put_number.ensures (then_all _ c.in_ok-put_number-2.ensures
    (then_all _ c.in_ok-put_number-3.ensures (then_all _ c.in_ok-put_number-4.ensures (then_all _ c.in_ok-put_number-5.ensures
    (then_all _ c.in_ok-put_number-6.ensures (token _ c.end_object.ensures)))))))
