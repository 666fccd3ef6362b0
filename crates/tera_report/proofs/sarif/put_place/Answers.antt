use Rattle.json_members.proofs.Putting.{then_all}
use Rattle.tera_report.proofs.sarif.put_place.Goals as goal

pub returns : goal.returns
returns c =
    then_all _ (rw (c.as_str.ensures.value, c.in_ok-uri.ensures) at c.in_ok-put_tokens.ensures) (then_all _ c.in_ok-put_corner.ensures
    (then_all _ c.in_ok-put_corner-2.ensures c.put_tokens-2.ensures))
