use Rattle.std.proofs.Common.{ap}
use Rattle.std.proofs.lemmas.Result.{err_from_is_err_and}
use Rattle.tera_grammar.specs.expressions.Reading.Whole.{left_over}
use Rattle.tera_expr_parts.specs.Allowed.{limits_of}
use Rattle.tera_tags.proofs.LoopHeads.{head_aimless, head_given, head_unnamed, head_without}
use Rattle.tera_expect.proofs.Steps.{failed_as}
use Rattle.tera_tags.proofs.heads.loop_to_end.Goals as goal

pub returns-in_err-key-clause-gives : goal.returns-in_err-key-clause-gives
returns-in_err-key-clause-gives c =
    let p = err_from_is_err_and c.from_residual.result c.from_residual.ensures.1 in
    rw (p.1, p.2) (failed_as _ _ _ _ (λ z h. head_unnamed (limits_of c.args.setting.now.limits) c.args.cursor.now.left z (ap left_over h)) (c.in_err-key.ensures.gives 0))

pub returns-in_err-expect-clause-gives : goal.returns-in_err-expect-clause-gives
returns-in_err-expect-clause-gives c =
    let p = err_from_is_err_and c.from_residual-in_err-expect.result c.from_residual-in_err-expect.ensures.1 in
    let (v, read_names, shows) = c.in_ok-key.ensures.gives 0 in
    let named = ap left_over read_names in
    rw (p.1, p.2) (failed_as _ _ _ _ (λ z h. head_without (limits_of c.args.setting.now.limits) c.args.cursor.now.left v c.variables.new.cursor.left named z h) c.in_err-expect.ensures.gives)

pub returns-in_err-target-clause-gives : goal.returns-in_err-target-clause-gives
returns-in_err-target-clause-gives c =
    let p = err_from_is_err_and c.from_residual-in_err-target.result c.from_residual-in_err-target.ensures.1 in
    let (v, read_names, shows) = c.in_ok-key.ensures.gives 0 in
    let named = ap left_over read_names in
    rw (p.1, p.2) (failed_as _ _ _ _ (λ z h. head_aimless (limits_of c.args.setting.now.limits) c.args.cursor.now.left v c.variables.new.cursor.left named
    c.expect.new.cursor.span c.expect.new.cursor.left c.in_ok-expect.ensures.gives z h) c.in_err-target.ensures.gives)

pub returns-clause-gives : goal.returns-clause-gives
returns-clause-gives c =
    let (v, read_names, shows) = c.in_ok-key.ensures.gives 0 in
    let named = ap left_over read_names in
    let (x, read, whole) = c.in_ok-target.ensures.gives in (
      (record { first = v.0; second = v.1; word = c.expect.new.cursor.span; target = x.0 }, x.1),
      head_given (limits_of c.args.setting.now.limits) c.args.cursor.now.left v c.variables.new.cursor.left named
          c.expect.new.cursor.span c.expect.new.cursor.left c.in_ok-expect.ensures.gives x c.expression_to_end.new.cursor.left read,
      (shows, whole),
    )
