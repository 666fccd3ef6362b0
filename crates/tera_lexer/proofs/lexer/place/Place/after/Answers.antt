use Rattle.std.proofs.Common.{ap, length}
use Rattle.tera_lexer.proofs.lexer.place.Place.after.Goals as goal

pub returns-then-is_printable : goal.returns-then-is_printable
returns-then-is_printable c =
    let are = rw (c.if-is_printable.true, c.as_bytes-bytes.ensures.value) at c.is_printable.ensures in
    c.along.ensures c.args.text.now (ap length c.as_bytes-bytes.ensures.value) are
