use Rattle.json_members.proofs.Putting.{then_all, then_token, token}
use Rattle.tera_tree_json.proofs.definitions.put_definition.Goals as goal

pub returns : goal.returns
returns c =
    rw (← c.as_str.ensures.value) (then_token _ c.in_ok-begin_object.ensures (then_all _
    c.in_ok-put_text.ensures (then_all _ c.in_ok-put_arguments.ensures (then_all _ c.in_ok-put_name.ensures
    (then_all _ c.in_ok-put_metadata.ensures (then_token _ c.in_ok-key.ensures (then_all _
    c.in_ok-put_nodes.ensures (token _ c.end_object.ensures))))))))
