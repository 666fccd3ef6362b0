use Rattle.std.proofs.Common.{◌≤◌, length, arith}
use Rattle.memchr.specs.Find.{Nowhere, OccursAt}
use Rattle.tera_lexer.proofs.Finding.{found_far, found_nowhere}
use Rattle.tera_lexer.proofs.lexer.markers.first_marker.Goals as goal
use Rattle.tera_lexer.proofs.lexer.markers.first_marker.Goals.{After-find}

fits : (c : After-find) → c.min-near.result ≤ length c.args.bytes.now
fits c = omega arith

-- none is nearby
nowhere : (c : After-find) → Nowhere (OccursAt c.args.bytes.now c.args.marker.now) 0 c.min-near.result
nowhere c = c.in_default.ensures

pub returns-in-Some-find : goal.returns-in-Some-find
returns-in-Some-find c =
    let at = (goal.at.returns-in-Some-find c).After-find in
    found_far c.args.marker.now c.args.bytes.now c.min-near.result (nowhere at) c.in-Some-find.at (fits at) c.requires (rw c.split_at.ensures.back at c.in-Some-find.ensures)

pub returns-in-None : goal.returns-in-None
returns-in-None c =
    let at = (goal.at.returns-in-None c).After-find in
    found_nowhere c.args.marker.now c.args.bytes.now c.min-near.result (nowhere at) (fits at) c.requires (rw c.split_at.ensures.back at c.in-None.ensures)
