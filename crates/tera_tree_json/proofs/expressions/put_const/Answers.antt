use Rattle.json_members.proofs.Putting.{then_all, then_token, token}
use Rattle.tera_tree_json.proofs.expressions.put_const.Goals as goal

pub returns : goal.returns
returns c =
    then_all _ c.in_ok-begin_at.ensures (then_token _ c.in_ok-key.ensures (then_all _ c.in_ok-put_value.ensures
    (token _ c.end_object.ensures)))
