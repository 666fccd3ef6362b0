use Rattle.std.proofs.Common.{arith}
use Rattle.json_rpc.proofs.Adding.{adds_within}
use Rattle.json_rpc.proofs.Escapes.{escape_byte-letter, escape_byte-control, escape_byte-plain}
use Rattle.json_rpc.proofs.refusing.push_escaped.Goals as goal

pub returns-in-Some : goal.returns-in-Some
returns-in-Some c =
    rw (escape_byte-letter c.args.byte c.in-Some.letter c.in-Some.ensures.0 c.in-Some.ensures.1)
    (adds_within 6 c.push.ensures (omega arith))

pub returns-in-None : goal.returns-in-None
returns-in-None c =
    rw (escape_byte-control c.args.byte c.digit.result c.digit-in-None.result c.in-None.ensures c.if-byte-lt32.true c.digit.ensures c.digit-in-None.ensures)
    (adds_within 6 c.push-in-None.ensures (omega arith))

pub returns-in-None-2 : goal.returns-in-None-2
returns-in-None-2 c =
    rw (escape_byte-plain c.args.byte c.in-None.ensures c.if-byte-lt32.false)
    (adds_within 6 c.push-in-None-2.ensures (omega arith))
