use Rattle.std.proofs.lemmas.Result.{err_from_is_err_and}
use Rattle.tera_expr_parts.specs.Allowed.{limits_of}
use Rattle.tera_tags.proofs.HeadsLemmas.{attributes_ended, attributes_unended, attributes_without, no_attributes}
use Rattle.tera_expect.proofs.Steps.{failed_as}
use Rattle.tera_tags.proofs.heads.attributes_to_end.Goals as goal

pub returns-in_err-entries-clause-gives : goal.returns-in_err-entries-clause-gives
returns-in_err-entries-clause-gives c =
    let l = limits_of c.args.setting.now.limits in
    let p = err_from_is_err_and c.from_residual.result c.from_residual.ensures.1 in
    let fact = rw (c.scope.ensures.in_loop, c.scope.ensures.limits) at c.in_err-entries.ensures.gives in
    rw (p.1, p.2) (failed_as _ _ _ _ (λ z h. no_attributes l c.args.in_loop c.args.cursor.now.left z h) fact)

pub returns-in_err-expect-clause-gives : goal.returns-in_err-expect-clause-gives
returns-in_err-expect-clause-gives c =
    let l = limits_of c.args.setting.now.limits in
    let p = err_from_is_err_and c.from_residual-in_err-expect.result c.from_residual-in_err-expect.ensures.1 in
    let (a, read, are) = rw (c.scope.ensures.in_loop, c.scope.ensures.limits) at c.in_ok-entries.ensures.gives in
    rw (p.1, p.2) (failed_as _ _ _ _ (λ z h. attributes_without l c.args.in_loop c.args.cursor.now.left a c.attributes.new.cursor.left read z h) c.in_err-expect.ensures.gives)

pub returns-in_err-finish-clause-gives : goal.returns-in_err-finish-clause-gives
returns-in_err-finish-clause-gives c =
    let l = limits_of c.args.setting.now.limits in
    let p = err_from_is_err_and c.from_residual-in_err-finish.result c.from_residual-in_err-finish.ensures.1 in
    let (a, read, are) = rw (c.scope.ensures.in_loop, c.scope.ensures.limits) at c.in_ok-entries.ensures.gives in
    rw (p.1, p.2) (failed_as _ _ _ _ (λ z h. attributes_unended l c.args.in_loop c.args.cursor.now.left a c.attributes.new.cursor.left read
    c.expect.new.cursor.span c.expect.new.cursor.left c.in_ok-expect.ensures.gives z h) c.in_err-finish.ensures.gives)

pub returns-clause-gives : goal.returns-clause-gives
returns-clause-gives c =
    let l = limits_of c.args.setting.now.limits in
    let (a, read, are) = rw (c.scope.ensures.in_loop, c.scope.ensures.limits) at c.in_ok-entries.ensures.gives in
    let (f, ended) = c.in_ok-finish.ensures.gives in (
      (a, c.expect.new.cursor.span, f),
      attributes_ended l c.args.in_loop c.args.cursor.now.left a c.attributes.new.cursor.left read
          c.expect.new.cursor.span c.expect.new.cursor.left c.in_ok-expect.ensures.gives f c.finish.new.cursor.left ended,
      are,
    )
