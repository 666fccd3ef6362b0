use Rattle.std.proofs.Common.{refl}
use Rattle.tera_answers.proofs.TokenLemmas.{on_one_line, both_walked_to}
use Rattle.tera_answers.proofs.semantic_tokens.place.Goals as goal

pub overflow_sub-placed : goal.overflow_sub-placed
overflow_sub-placed c =
    let walked = both_walked_to c.args.encoding c.args.text.now c.args.walk.byte c.onward-start.result c.onward-end.result c.args.token c.requires.order c.requires.line
    c.onward-start.ensures.reached c.onward-start.ensures.byte c.onward-end.ensures.reached c.onward-end.ensures.byte in
    rw (walked.0, walked.1) (on_one_line c.args.encoding c.args.text.now c.args.token c.utf8.text c.requires.line).1

pub returns-clause-placed : goal.returns-clause-placed
returns-clause-placed c =
    let walked = both_walked_to c.args.encoding c.args.text.now c.args.walk.byte c.onward-start.result c.onward-end.result c.args.token c.requires.order c.requires.line
    c.onward-start.ensures.reached c.onward-start.ensures.byte c.onward-end.ensures.reached c.onward-end.ensures.byte in
    rw (walked.0, walked.1) refl

pub returns-clause-byte : goal.returns-clause-byte
returns-clause-byte c =
    let walked = both_walked_to c.args.encoding c.args.text.now c.args.walk.byte c.onward-start.result c.onward-end.result c.args.token c.requires.order c.requires.line
    c.onward-start.ensures.reached c.onward-start.ensures.byte c.onward-end.ensures.reached c.onward-end.ensures.byte in
    walked.2
