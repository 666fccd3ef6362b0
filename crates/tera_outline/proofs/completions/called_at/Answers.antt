use Rattle.tera_outline.proofs.NamePlaces.{named_found}
use Rattle.tera_outline.proofs.completions.called_at.Goals as goal

pub returns-in-len1-up : goal.returns-in-len1-up
returns-in-len1-up c =
    named_found c.args.last c.args.byte c.dotted-name.result.now c.args.following.now c.first-item.result c.inside_at.result c.in-len1-up.len_at_least c.first-item.is
    (rw c.end_of.ensures at c.inside_at.ensures) c.dotted-name.ensures.name
