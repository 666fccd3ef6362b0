use Rattle.std.proofs.Common.{◌∙◌, ap, drop, arith}
use Rattle.text_edits.proofs.Columns.{start_within, byte_past, byte_within}
use Rattle.text_edits.proofs.positions.byte_at.Goals as goal

pub returns-then-position-count-clause-byte : goal.returns-then-position-count-clause-byte
returns-then-position-count-clause-byte c =
    byte_past c.args.encoding c.args.text.now c.args.lines.now.starts.items c.args.position.line c.args.position.character c.requires.starts (omega (arith, c.count.ensures, c.if-position-count.true))

pub split_at-requires : goal.split_at-requires
split_at-requires c =
    omega (arith, start_within c.args.text.now c.args.lines.now.starts.items c.args.position.line c.requires.starts (omega (arith, c.count.ensures, c.if-position-count.false)), c.start-start.ensures, c.as_bytes.ensures.len)

pub returns-clause-byte : goal.returns-clause-byte
returns-clause-byte c =
    byte_within c.args.encoding c.args.text.now c.args.lines.now.starts.items c.split_at.result.1.now c.args.position.line c.args.position.character c.start-start.result c.column_byte.result c.requires.starts
    (omega (arith, c.count.ensures, c.if-position-count.false)) c.start-start.ensures (c.split_at.ensures.back ∙ ap (drop c.start-start.result) c.as_bytes.ensures.value) c.column_byte.ensures.byte
