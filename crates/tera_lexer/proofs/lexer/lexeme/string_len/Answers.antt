use Rattle.std.proofs.Common.{◌<◌, ◌∙◌, subst}
use Rattle.tera_lexer.specs.code.Found.{goes_on_string}
use Rattle.tera_lexer.proofs.Closings.{len_to_stop, len_of_all}
use Rattle.tera_lexer.proofs.Lanes.{run_in_front}
use Rattle.tera_lexer.proofs.lexer.lexeme.string_len.Goals as goal

pub returns-then-len-lt-LANES : goal.returns-then-len-lt-LANES
returns-then-len-lt-LANES c =
    c.string_lanes-len.ensures ∙ run_in_front (goes_on_string c.args.quote) c.args.bytes.now 16 (subst (λ n. n < 16) c.string_lanes-len.ensures c.if-len-lt-LANES.true)

pub returns-in-Some : goal.returns-in-Some
returns-in-Some c = len_to_stop c.args.quote c.args.bytes.now c.in-Some.at c.in-Some.ensures.0.high c.in-Some.ensures.0.before c.in-Some.ensures.1

pub returns-in-None : goal.returns-in-None
returns-in-None c = len_of_all c.args.quote c.args.bytes.now c.in-None.ensures
