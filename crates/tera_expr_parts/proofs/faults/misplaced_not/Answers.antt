use Rattle.std.proofs.Common.{inl, inr}
use Rattle.tera_grammar.specs.expressions.Marks.{Not}
use Rattle.tera_expr_parts.proofs.RefusedLemmas.{mark_taken, mark_untaken}
use Rattle.tera_expr_parts.proofs.faults.misplaced_not.Goals as goal

pub returns-in-Ok-clause-takes : goal.returns-in-Ok-clause-takes
returns-in-Ok-clause-takes c = λ there. inr (mark_taken Not c.args.cursor.now.left c.expect.new.cursor.left _ c.in-Ok.ensures.gives)

pub returns-in-Err-clause-takes : goal.returns-in-Err-clause-takes
returns-in-Err-clause-takes c = λ there. inl (mark_untaken Not c.args.cursor.now.left c.expect.new.cursor.left _ c.in-Err.ensures.gives there)
