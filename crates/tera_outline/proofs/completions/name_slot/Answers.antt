use Rattle.std.proofs.Common.{refl}
use Rattle.tera_outline.proofs.NamePlaces.{name_placed}
use Rattle.tera_outline.proofs.completions.name_slot.Goals as goal

pub returns-in_default : goal.returns-in_default
returns-in_default c =
    let end = name_placed c.args.last c.dotted-name.result.now c.args.following.now c.dot_end-end.result c.in_default.len_at_least c.dotted-name.ensures.name
    (rw c.end_of.ensures at c.dot_end-end.ensures) in
    rw (end, c.gap_end-start.ensures) refl
