use Rattle.std.proofs.Common.{◌∙◌, ◌-◌, ap, sym, arith, drop}
use Rattle.text_edits.specs.Lines.{lines_of}
use Rattle.text_edits.specs.Positions.{byte_in}
use Rattle.text_edits.proofs.Columns.{column}
use Rattle.text_edits.proofs.Nearer.{from_place}
use Rattle.text_edits.proofs.positions.byte_from.Goals as goal

pub returns-clause-byte : goal.returns-clause-byte
returns-clause-byte c =
    let e = c.args.encoding in
    let text = c.args.text.now in
    let at = c.args.position in
    let place = c.args.place in
    let left = at.character - place.position.character in
    let there = from_place e text place.byte place.position at.character c.requires.reached.0 (sym c.requires.reached.1) c.requires.character c.requires.outside in
    let rest = c.split_at.ensures.back ∙ ap (drop place.byte) c.as_bytes.ensures.value in
    let more = c.column_byte.ensures.byte ∙ ap (λ t. column e t left) rest in
    omega (arith, there, more, ap (λ n. byte_in e (lines_of text) n at.character) c.requires.line)
