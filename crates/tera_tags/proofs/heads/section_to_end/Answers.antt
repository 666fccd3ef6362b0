use Rattle.std.proofs.Common.{rules, ◌≡◌, [], ◌∷◌}
use Rattle.std.proofs.lemmas.Result.{err_from_is_err_and}
use Rattle.tera_expr_parts.specs.Allowed.{limits_of}
use Rattle.tera_tags.proofs.HeadsLemmas.{no_filter, with_others}
use Rattle.tera_expect.proofs.TakingLemmas.{goes_took_ok, refused_further_err, took_goes}
use Rattle.tera_expect.proofs.Steps.{failed_as}
use Rattle.tera_tags.proofs.heads.section_to_end.Goals as goal

pub returns-in_err-one-clause-gives : goal.returns-in_err-one-clause-gives
returns-in_err-one-clause-gives c =
    let l = limits_of c.args.setting.now.limits in
    let p = err_from_is_err_and c.from_residual.result c.from_residual.ensures.1 in
    let fact = rw (c.scope.ensures.in_loop, c.scope.ensures.limits) at c.in_err-one.ensures.gives in
    rw (p.1, p.2) (failed_as _ _ _ _ (λ z h. no_filter l c.args.in_loop c.args.cursor.now.left z h) fact)

pub returns-clause-gives : goal.returns-clause-gives
returns-clause-gives c =
    let l = limits_of c.args.setting.now.limits in
    let (g, read, is) = rw (c.scope.ensures.in_loop, c.scope.ensures.limits) at c.in_ok-one.ensures.gives in
    let pushed : c.push.new.self.items ≡ c.in_ok-one.one ∷ [] = search rules in
    with_others l c.args.in_loop c.args.cursor.now.left g c.filter.new.cursor.left read c.args.cursor.now.span c.in_ok-one.one c.push.new.self.items is pushed
    c.filters_to_end.result c.filters_to_end.new.cursor.left c.filters_to_end.ensures.gives

pub returns-clause-refusal : goal.returns-clause-refusal
returns-clause-refusal c =
    refused_further_err c.filters_to_end.result c.args.cursor.now c.filter.new.cursor _ (took_goes _ _ c.in_ok-one.ensures.later) c.filters_to_end.ensures.refusal

pub returns-clause-later : goal.returns-clause-later
returns-clause-later c =
    goes_took_ok c.filters_to_end.result c.args.cursor.now c.filter.new.cursor c.filters_to_end.new.cursor (took_goes _ _ c.in_ok-one.ensures.later) c.filters_to_end.ensures.later
