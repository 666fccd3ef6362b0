use Rattle.json_members.proofs.Putting.{then_all}
use Rattle.tera_findings.specs.Objects.{members}
use Rattle.tera_findings.proofs.objects.write_members.Goals as goal

pub returns : goal.returns
unfolding members
returns c =
    then_all _ c.in_ok-put_text.ensures (then_all _ (rw c.of-start.ensures at c.in_ok-put_number.ensures)
    (then_all _ (rw c.of-start.ensures at c.in_ok-put_number-2.ensures) (then_all _ (rw c.end_of-end.ensures at c.in_ok-put_number-3.ensures)
    (then_all _ (rw c.end_of-end.ensures at c.in_ok-put_number-4.ensures) c.put_text-2.ensures))))
