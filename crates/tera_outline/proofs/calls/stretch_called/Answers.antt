use Rattle.std.proofs.Common.{option_map}
use Rattle.tera_outline.specs.Calls.{stretch_view}
use Rattle.tera_outline.proofs.CallSteps.{stretch_named}
use Rattle.tera_outline.proofs.calls.stretch_called.Goals as goal

pub returns-in-len1-up : goal.returns-in-len1-up
returns-in-len1-up c =
    stretch_named c.args.last c.args.byte c.dotted-name.result.now c.args.following.now c.first-item.result (option_map stretch_view c.stretch_inside.result) c.in-len1-up.len_at_least c.first-item.is
    (rw c.end_of.ensures at c.stretch_inside.ensures) c.dotted-name.ensures.name
