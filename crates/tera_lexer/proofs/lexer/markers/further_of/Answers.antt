use Rattle.std.proofs.Common.{◌∙◌, take, ap, arith, length}
use Rattle.memchr.specs.Find.{is_byte3}
use Rattle.tera_lexer.proofs.Windows.{first_on, nowhere_on}
use Rattle.tera_lexer.proofs.lexer.markers.further_of.Goals as goal

pub returns-in-Some : goal.returns-in-Some
returns-in-Some c =
    let len = c.split_at-in-loop-from.ensures.front_len in
    let high = c.in-Some.ensures.0.high in
    first_on (is_byte3 c.args.a c.args.b c.args.c) c.args.bytes.now c.split_at-in-loop-from.result.0.now c.loop-from.from c.min.result
    (c.split_at-in-loop-from.ensures.front ∙ ap (take c.min.result) c.split_at.ensures.back) c.loop-from.invariant.passed c.in-Some.at
    (omega (arith, len, high)) (omega (arith, len, c.min.ensures, c.split_at.ensures.back_len, c.loop-from.invariant.within)) c.in-Some.ensures.0.before c.in-Some.ensures.1

pub loop-from-preserved : goal.loop-from-preserved
loop-from-preserved c =
    let len = c.split_at-in-loop-from.ensures.front_len in
    record {
      within = omega (arith, len, c.min.ensures, c.split_at.ensures.back_len, c.loop-from.invariant.within);
      passed = nowhere_on (is_byte3 c.args.a c.args.b c.args.c) c.args.bytes.now c.split_at-in-loop-from.result.0.now c.loop-from.from c.min.result
          (c.split_at-in-loop-from.ensures.front ∙ ap (take c.min.result) c.split_at.ensures.back) c.loop-from.invariant.passed (length c.split_at-in-loop-from.result.0.now) (omega (arith, len)) c.in_default.ensures;
    }
