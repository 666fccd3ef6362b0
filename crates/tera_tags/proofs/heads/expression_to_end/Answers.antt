use Rattle.std.proofs.lemmas.Result.{err_from_is_err_and}
use Rattle.tera_expr_parts.specs.Allowed.{limits_of}
use Rattle.tera_tags.proofs.HeadsLemmas.{expression_ended, expression_unended, no_expression}
use Rattle.tera_expect.proofs.Steps.{failed_as}
use Rattle.tera_tags.proofs.heads.expression_to_end.Goals as goal

pub returns-in_err-expr-clause-gives : goal.returns-in_err-expr-clause-gives
returns-in_err-expr-clause-gives c =
    let l = limits_of c.args.setting.now.limits in
    let p = err_from_is_err_and c.from_residual.result c.from_residual.ensures.1 in
    let fact = c.in_err-expr.ensures.gives in
    rw (p.1, p.2) (failed_as _ _ _ _ (λ z h. no_expression l c.args.in_loop c.args.cursor.now.left z h) fact)

pub returns-in_err-finish-clause-gives : goal.returns-in_err-finish-clause-gives
returns-in_err-finish-clause-gives c =
    let l = limits_of c.args.setting.now.limits in
    let p = err_from_is_err_and c.from_residual-in_err-finish.result c.from_residual-in_err-finish.ensures.1 in
    let (e, read, is) = c.in_ok-expr.ensures.gives in
    rw (p.1, p.2) (failed_as _ _ _ _ (λ z h. expression_unended l c.args.in_loop c.args.cursor.now.left e c.tag_expression.new.cursor.left read z h) c.in_err-finish.ensures.gives)

pub returns-clause-gives : goal.returns-clause-gives
returns-clause-gives c =
    let l = limits_of c.args.setting.now.limits in
    let (e, read, is) = c.in_ok-expr.ensures.gives in
    let (f, ended) = c.in_ok-finish.ensures.gives in
    ((e, f), expression_ended l c.args.in_loop c.args.cursor.now.left e c.tag_expression.new.cursor.left read f c.finish.new.cursor.left ended, is)
