use Rattle.json_members.proofs.Putting.{then_all, then_token, token}
use Rattle.tera_tree_json.proofs.tree.put_tree.Goals as goal

pub returns : goal.returns
returns c =
    then_token _ c.in_ok-begin_object.ensures (then_all _ c.in_ok-put_name.ensures (then_token _
    c.in_ok-key.ensures (then_all _ c.in_ok-put_definitions.ensures (then_token _ c.in_ok-key-2.ensures
    (then_all _ c.in_ok-put_nodes.ensures (token _ c.end_object.ensures))))))
