use Rattle.std.proofs.Common.{not, Ok, subst}
use Rattle.tera_lexer.specs.code.Cursors.{Position}
use Rattle.tera_expr_parts.specs.CommaLists.{Continues}
use Rattle.tera_expect.specs.Taking.{mark_of}
use Rattle.std.proofs.lemmas.Result.{err_from_is_err_and}
use Rattle.tera_expr_parts.proofs.RowsLemmas.{comma_then, comma_missed}
use Rattle.tera_expr_parts.proofs.rows.more.Goals as goal

pub returns-clause-gives : goal.returns-clause-gives
returns-clause-gives c =
    let stays = rw c.if-eat.false at c.eat.ensures in
    subst (λ (q : Position). Continues (mark_of c.args.end) q.left c.eat-2.new.cursor (Ok (not c.eat-2.result))) stays.1
    (comma_then (mark_of c.args.end) c.eat.new.cursor.left c.expect.new.cursor c.eat-2.new.cursor c.eat-2.result c.in_ok-expect.ensures.gives c.eat-2.ensures)

pub returns-in_err-expect-clause-gives : goal.returns-in_err-expect-clause-gives
returns-in_err-expect-clause-gives c =
    let stays = rw c.if-eat.false at c.eat.ensures in
    let p = err_from_is_err_and c.from_residual.result c.from_residual.ensures.1 in
    rw (p.1, p.2) (comma_missed (mark_of c.args.end) c.args.cursor.now c.eat.new.cursor c.expect.new.cursor _ stays c.in_err-expect.ensures.gives)
