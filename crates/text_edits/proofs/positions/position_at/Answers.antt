use Rattle.std.proofs.Common.{◌≡◌, ◌∙◌, ap, arith}
use Rattle.text_edits.specs.Lines.{lines_of}
use Rattle.text_edits.specs.Positions.{position_of, boundary_to}
use Rattle.text_edits.proofs.Boundaries.{last_is}
use Rattle.text_edits.proofs.Steps.{line_reached, first_start}
use Rattle.text_edits.proofs.positions.position_at.Goals as goal

pub line_to-line-requires-clause-some : goal.line_to-line-requires-clause-some
line_to-line-requires-clause-some c = (first_start c.args.text.now c.args.lines.now.starts.items c.requires.starts).0

pub line_to-line-requires-clause-first : goal.line_to-line-requires-clause-first
line_to-line-requires-clause-first c = omega (arith, (first_start c.args.text.now c.args.lines.now.starts.items c.requires.starts).1)

pub onward-requires : goal.onward-requires
onward-requires c =
    c.nearer-near.ensures.reached c.args.text.now c.requires
    (line_reached c.args.encoding c.args.text.now c.args.lines.now.starts.items c.line_to-line.result c.start.result c.requires.starts c.line_to-line.ensures.within c.start.ensures)

pub returns : goal.returns
returns c =
    let text = c.args.text.now in
    let floor = c.floor_char_boundary-byte.result in
    let ensures = c.floor_char_boundary-byte.ensures in
    let last = last_is text c.args.byte floor ensures.bound ensures.boundary ensures.nearest in
    let again = last_is text floor floor (omega arith) ensures.boundary (λ k above below _. omega (arith, above, below)) in
    let at : c.onward.result.byte ≡ boundary_to text c.args.byte = omega (arith, last, again, c.onward.ensures.byte, c.nearer-near.ensures.before) in
    c.onward.ensures.reached.1 ∙ ap (position_of c.args.encoding (lines_of text)) at
