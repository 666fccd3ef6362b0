use Rattle.std.proofs.Common.{None, Some, refl, ap}
use Rattle.std.proofs.lemmas.Result.{err_from_is_err_and}
use Rattle.tera_grammar.specs.statements.Reading.Components.{assigned_in}
use Rattle.tera_expr_parts.specs.Allowed.{limits_of}
use Rattle.tera_tags.proofs.ParametersLemmas.{no_default, default_given}
use Rattle.tera_expect.proofs.Steps.{failed_as}
use Rattle.tera_tags.proofs.parameters.assigned.Goals as goal

pub returns-then-not-eat-clause-gives : goal.returns-then-not-eat-clause-gives
unfolding assigned_in
returns-then-not-eat-clause-gives c =
    let none = rw c.if-not-eat.true at c.eat.ensures in
    rw (none.0, none.1) (None, refl, refl)

pub returns-in_err-default_value-clause-gives : goal.returns-in_err-default_value-clause-gives
returns-in_err-default_value-clause-gives c =
    let sign = rw c.if-not-eat.false at c.eat.ensures in
    let p = err_from_is_err_and c.from_residual.result c.from_residual.ensures.1 in
    rw (p.1, p.2, sign.0) (failed_as _ _ _ _ (λ z h. no_default (limits_of c.args.setting.now.limits) c.args.cursor.now.left c.eat.new.cursor.left c.eat.new.cursor.span z h) c.in_err-default_value.ensures.gives)

pub returns-clause-gives : goal.returns-clause-gives
returns-clause-gives c =
    let sign = rw c.if-not-eat.false at c.eat.ensures in
    let (d, read, is) = c.in_ok-default_value.ensures.gives in
    rw sign.0 (Some (record { sign = c.eat.new.cursor.span; value = d }), default_given (limits_of c.args.setting.now.limits) c.args.cursor.now.left c.eat.new.cursor.left c.eat.new.cursor.span d _ read, ap Some is)
