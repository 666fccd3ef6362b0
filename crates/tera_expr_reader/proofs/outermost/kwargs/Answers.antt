use Rattle.std.proofs.lemmas.Result.{err_from_is_err_and}
use Rattle.tera_expr_parts.specs.Allowed.{limits_of}
use Rattle.tera_expr_reader.proofs.OutermostLemmas.{kwargs_alone, no_paren}
use Rattle.tera_expr_reader.proofs.outermost.kwargs.Goals as goal

pub returns-in_err-expect-clause-gives : goal.returns-in_err-expect-clause-gives
returns-in_err-expect-clause-gives c =
    let p = err_from_is_err_and c.from_residual.result c.from_residual.ensures.1 in
    rw (p.1, p.2) (no_paren (limits_of c.args.scope.limits) c.args.scope.in_loop c.args.cursor.now.left c.expect.new.cursor.left 0 _ c.in_err-expect.ensures.gives)

pub returns-clause-gives : goal.returns-clause-gives
returns-clause-gives c =
    let mid = c.expect.new.cursor in
    let new = c.arguments.new.cursor in
    kwargs_alone (limits_of c.args.scope.limits) c.args.scope.in_loop c.args.cursor.now.left new.left c.arguments.new.links mid.left mid.span new.span c.arguments.result
    c.in_ok-expect.ensures.gives (rw (c.outermost.ensures.reader, c.outermost.ensures.room, c.outermost.ensures.scope) at c.arguments.ensures.gives)
