use Rattle.json_members.proofs.Putting.{then_token, then_all, token}
use Rattle.tera_findings.specs.Objects.{object_with}
use Rattle.tera_findings.proofs.objects.put_with.Goals as goal

pub returns : goal.returns
unfolding object_with
returns c =
    then_token _ c.in_ok-begin_object.ensures (then_all _ c.in_ok-write_members.ensures
    (then_all _ (rw c.name.ensures at c.in_ok-put_text.ensures) (then_all _ c.in_ok-put_text-2.ensures
    (then_all _ c.in_ok-write_notes.ensures (token _ c.end_object.ensures)))))
