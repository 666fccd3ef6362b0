use Rattle.std.proofs.Common.{◌<◌, ◌∙◌, subst}
use Rattle.tera_lexer.specs.grammar.Lexeme.{goes_on_name}
use Rattle.tera_lexer.proofs.Lanes.{run_in_front}
use Rattle.tera_lexer.proofs.lexer.lexeme.name_len.Goals as goal

pub returns-then-len-lt-LANES : goal.returns-then-len-lt-LANES
returns-then-len-lt-LANES c =
    c.name_lanes-len.ensures ∙ run_in_front goes_on_name c.args.bytes.now 16 (subst (λ n. n < 16) c.name_lanes-len.ensures c.if-len-lt-LANES.true)
