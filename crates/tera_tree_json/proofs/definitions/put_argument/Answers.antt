use Rattle.json_members.proofs.Putting.{then_all, then_token}
use Rattle.tera_tree_json.proofs.definitions.put_argument.Goals as goal

pub returns : goal.returns
returns c =
    then_token _ c.in_ok-begin_object.ensures (then_all _ c.in_ok-put_type.ensures (then_all _
    c.in_ok-put_flag.ensures (c.put_default.ensures)))
