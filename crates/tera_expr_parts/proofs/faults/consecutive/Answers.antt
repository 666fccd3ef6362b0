use Rattle.std.proofs.Common.{inl, inr}
use Rattle.tera_expr_parts.proofs.RefusedLemmas.{sign_untaken}
use Rattle.tera_expr_parts.proofs.faults.consecutive.Goals as goal

pub returns-in-Ok-clause-takes : goal.returns-in-Ok-clause-takes
returns-in-Ok-clause-takes c = λ sign. inr (_, _, c.in-Ok.ensures.takes.1)

pub returns-clause-takes : goal.returns-clause-takes
returns-clause-takes c = λ sign. inl (sign_untaken c.args.cursor.now c.next_or_eoi.new.self _ c.in-Err.ensures.takes sign)
