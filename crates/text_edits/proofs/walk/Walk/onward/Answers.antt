use Rattle.std.proofs.Common.{◌∙◌, drop, ap, sym, add-one, arith}
use Rattle.text_edits.specs.Lines.{lines_of}
use Rattle.text_edits.specs.Positions.{position_of}
use Rattle.text_edits.specs.Walks.{position_after}
use Rattle.text_edits.proofs.Boundaries.{last_is}
use Rattle.text_edits.proofs.Steps.{one_more, line_bound, character_bound}
use Rattle.text_edits.proofs.Widths.{units_bound}
use Rattle.text_edits.proofs.walk.Walk.onward.Goals as goal

pub following-position-requires-clause-line : goal.following-position-requires-clause-line
following-position-requires-clause-line c =
    let text = c.as_bytes-bytes.result.now in
    let bound = line_bound c.args.encoding text c.loop-at.at (omega arith) in
    omega (arith, bound, ap (λ p. p.line) c.loop-at.invariant.position)

pub following-position-requires-clause-character : goal.following-position-requires-clause-character
following-position-requires-clause-character c =
    let text = c.as_bytes-bytes.result.now in
    let bound = character_bound c.args.encoding text c.loop-at.at (omega arith) in
    let few = units_bound c.args.encoding text c.loop-at.at c.as_bytes-bytes.ensures.utf8 in
    omega (arith, bound, few, ap (λ p. p.character) c.loop-at.invariant.position)

pub loop-at-preserved : goal.loop-at-preserved
loop-at-preserved c =
    let text = c.as_bytes-bytes.result.now in
    record {
      position = c.following-position.ensures ∙ ap (position_after c.args.encoding (drop c.loop-at.at text)) c.loop-at.invariant.position
          ∙ sym (one_more c.args.encoding text c.loop-at.at (omega arith)) ∙ ap (position_of c.args.encoding (lines_of text)) (sym (add-one c.loop-at.at));
      within = omega arith;
    }

pub returns-clause-byte : goal.returns-clause-byte
returns-clause-byte c =
    let last = last_is c.args.text.now c.args.byte c.floor_char_boundary-end.result c.floor_char_boundary-end.ensures.bound c.floor_char_boundary-end.ensures.boundary c.floor_char_boundary-end.ensures.nearest in
    omega (arith, last, c.max.ensures)
