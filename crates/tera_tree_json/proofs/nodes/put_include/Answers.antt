use Rattle.json_members.proofs.Putting.{then_all, token}
use Rattle.tera_tree_json.proofs.nodes.put_include.Goals as goal

pub returns : goal.returns
returns c =
    rw (← c.span.ensures, ← c.node.ensures, ← c.as_str.ensures.value) (then_all _ c.in_ok-begin_at.ensures
    (then_all _ c.in_ok-put_text.ensures (token _ c.end_object.ensures)))
