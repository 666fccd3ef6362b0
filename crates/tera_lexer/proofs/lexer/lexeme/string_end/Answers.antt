use Rattle.tera_lexer.proofs.Closings.{closes_plain}
use Rattle.tera_lexer.proofs.lexer.lexeme.string_end.Goals as goal

pub returns-then-bytes-len : goal.returns-then-bytes-len
returns-then-bytes-len c = closes_plain c.args.quote c.args.bytes.now c.string_len-len.result c.requires c.string_len-len.ensures c.if-len-bytes.true c.if-bytes-len.true
