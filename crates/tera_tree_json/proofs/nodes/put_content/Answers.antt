use Rattle.json_members.proofs.Putting.{token, then_all}
use Rattle.tera_tree_json.proofs.nodes.put_content.Goals as goal

pub returns : goal.returns
returns c = then_all _ c.in_ok-begin.ensures (then_all _ c.in_ok-put_text.ensures (token _ c.end_object.ensures))
