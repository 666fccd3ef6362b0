use Rattle.json_members.proofs.Putting.{then_all}
use Rattle.tera_report.proofs.sarif.put_locations.Goals as goal

pub returns : goal.returns
returns c = then_all _ c.in_ok-put_tokens.ensures (then_all _ c.in_ok-put_place.ensures c.put_tokens-2.ensures)
