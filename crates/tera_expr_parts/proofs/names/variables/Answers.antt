use Rattle.std.proofs.Common.{Some, refl, ap}
use Rattle.std.proofs.lemmas.Result.{err_from_is_err_and}
use Rattle.tera_grammar.specs.expressions.Concrete.{no_second, second}
use Rattle.tera_grammar.specs.expressions.Reading.Front.{at}
use Rattle.tera_grammar.specs.expressions.Reading.Atoms.{variables_of}
use Rattle.tera_grammar.specs.statements.Reading.Heads.{free_name}
use Rattle.tera_expect.specs.Taking.{name_at}
use Rattle.tera_expr_parts.proofs.NamesLemmas.{no_variable, one_variable, two_variables, no_second_variable}
use Rattle.tera_expect.proofs.Steps.{failed_as}
use Rattle.tera_expr_parts.proofs.names.variables.Goals as goal

pub returns-in_err-first-clause-gives : goal.returns-in_err-first-clause-gives
returns-in_err-first-clause-gives c = λ i.
    let ts = c.args.cursor.now.left in
    let p = err_from_is_err_and c.from_residual.result c.from_residual.ensures.1 in
    rw (p.1, p.2) (failed_as (free_name ts) (variables_of (at i ts)) _ _ (no_variable i ts) c.in_err-first.ensures.gives)

pub returns-in_err-second-clause-gives : goal.returns-in_err-second-clause-gives
returns-in_err-second-clause-gives c = λ i.
    let ts = c.args.cursor.now.left in
    let us = c.free_name.new.cursor.left in
    let vs = c.eat.new.cursor.left in
    let comma = rw c.if-eat.true at c.eat.ensures in
    let p = err_from_is_err_and c.from_residual-in_err-second.result c.from_residual-in_err-second.ensures.1 in
    rw (p.1, p.2) (failed_as (free_name vs) (variables_of (at i ts)) _ _
    (no_second_variable i ts us vs c.eat.new.cursor.span (name_at c.free_name.new.cursor.span c.in_ok-first.first) c.in_ok-first.ensures.gives comma.0)
    c.in_err-second.ensures.gives)

pub returns-then-eat-clause-gives : goal.returns-then-eat-clause-gives
returns-then-eat-clause-gives c = λ i.
    let ts = c.args.cursor.now.left in
    let us = c.free_name.new.cursor.left in
    let vs = c.eat.new.cursor.left in
    let ws = c.free_name-then-eat.new.cursor.left in
    let comma = rw c.if-eat.true at c.eat.ensures in
    let n = name_at c.free_name.new.cursor.span c.in_ok-first.first in
    let m = name_at c.free_name-then-eat.new.cursor.span c.in_ok-second.second in (
      (n, second c.eat.new.cursor.span m),
      two_variables i ts us vs ws c.eat.new.cursor.span n m c.in_ok-first.ensures.gives comma.0 c.in_ok-second.ensures.gives,
      (ap Some c.in_ok-key.ensures.ok, c.in_ok-from_str.ensures.ok),
    )

pub returns-clause-gives : goal.returns-clause-gives
returns-clause-gives c = λ i.
    let ts = c.args.cursor.now.left in
    let us = c.free_name.new.cursor.left in
    let none = rw c.if-eat.false at c.eat.ensures in
    let n = name_at c.free_name.new.cursor.span c.in_ok-first.first in
    rw none.1 ((n, no_second), one_variable i ts us n c.in_ok-first.ensures.gives none.0, (refl, c.in_ok-from_str-2.ensures.ok))
