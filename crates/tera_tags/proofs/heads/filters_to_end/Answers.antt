use Rattle.std.proofs.lemmas.Result.{err_from_is_err_and}
use Rattle.tera_expr_parts.specs.Allowed.{limits_of}
use Rattle.tera_tags.proofs.HeadsLemmas.{filters_ended, filters_unended, no_filters}
use Rattle.tera_expect.proofs.Steps.{failed_as}
use Rattle.tera_tags.proofs.heads.filters_to_end.Goals as goal

pub returns-in_err-filters-clause-gives : goal.returns-in_err-filters-clause-gives
returns-in_err-filters-clause-gives c =
    let l = limits_of c.args.setting.now.limits in
    let p = err_from_is_err_and c.from_residual.result c.from_residual.ensures.1 in
    rw (p.1, p.2) (failed_as _ _ _ _ (λ z h. no_filters l c.args.in_loop c.args.cursor.now.left z h) c.in_err-filters.ensures.gives)

pub returns-in_err-finish-clause-gives : goal.returns-in_err-finish-clause-gives
returns-in_err-finish-clause-gives c =
    let l = limits_of c.args.setting.now.limits in
    let p = err_from_is_err_and c.from_residual-in_err-finish.result c.from_residual-in_err-finish.ensures.1 in
    let (fs, read, are) = c.in_ok-filters.ensures.gives in
    rw (p.1, p.2) (failed_as _ _ _ _ (λ z h. filters_unended l c.args.in_loop c.args.cursor.now.left fs c.more_filters.new.cursor.left read z h) c.in_err-finish.ensures.gives)

pub returns-clause-gives : goal.returns-clause-gives
returns-clause-gives c =
    let l = limits_of c.args.setting.now.limits in
    let (fs, read, are) = c.in_ok-filters.ensures.gives in
    let (f, ended) = c.in_ok-finish.ensures.gives in
    ((fs, f), filters_ended l c.args.in_loop c.args.cursor.now.left fs c.more_filters.new.cursor.left read f c.finish.new.cursor.left ended, are)
