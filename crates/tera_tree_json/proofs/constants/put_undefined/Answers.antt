use Rattle.std.proofs.Common.{append_assoc, ◌∙◌}
use Rattle.json_members.proofs.Putting.{put_last}
use Rattle.tera_tree_json.proofs.constants.put_undefined.Goals as goal

pub returns : goal.returns
returns c =
    put_last _ _ _ _ _ _ c.end_object.ensures (c.in_ok-null.ensures.room.0 ∙ c.in_ok-key.ensures.room.0 ∙ c.in_ok-begin_object.ensures.room.0)
    (rw (c.in_ok-null.ensures.ok, c.in_ok-key.ensures.ok, c.in_ok-begin_object.ensures.ok) (simp append_assoc))
