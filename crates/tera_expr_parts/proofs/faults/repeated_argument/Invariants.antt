use Rattle.tera_lexer.specs.code.Cursors.{ReportsAt}
use Rattle.tera_expect.specs.Taking.{Refuses}
use Rattle.tera_expr_parts.proofs.faults.repeated_argument.Given as goal

abbrev pub invariant-loop-known : goal.invariant-loop-known
invariant-loop-known l = record {
  refuses : Refuses l.fn.cursor l.fn.cursor l.error;
  place : ReportsAt l.fn.cursor.span l.error;
}
