use Rattle.std.proofs.Common.{inl, inr, sym, ◌∙◌}
use Rattle.std.proofs.lemmas.Result.{err_from_is_err_and}
use Rattle.tera_grammar.specs.expressions.Reading.Front.{taken_name}
use Rattle.tera_expect.proofs.Steps.{failed}
use Rattle.tera_expr_parts.proofs.names.free_name.Goals as goal

pub returns-then-is_reserved-clause-gives : goal.returns-then-is_reserved-clause-gives
returns-then-is_reserved-clause-gives c =
    let reserved = sym c.is_reserved.ensures ∙ c.if-is_reserved.true in
    inr (inl (rw (c.in_ok-name.ensures.gives, reserved)))

pub returns-clause-gives : goal.returns-clause-gives
returns-clause-gives c =
    let free = sym c.is_reserved.ensures ∙ c.if-is_reserved.false in
    rw (c.in_ok-name.ensures.gives, free)

pub returns-in_err-name-clause-gives : goal.returns-in_err-name-clause-gives
returns-in_err-name-clause-gives c =
    let p = err_from_is_err_and c.from_residual.result c.from_residual.ensures.1 in
    rw (p.1, p.2) (failed (taken_name c.args.cursor.now.left) _ _ _ c.in_err-name.ensures.gives)
