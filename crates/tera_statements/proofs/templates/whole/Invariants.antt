use Rattle.tera_lexer.specs.code.Cursors.{size}
use Rattle.tera_statements.specs.Adding.{here}
use Rattle.tera_expr_parts.specs.Allowed.{limits_of}
use Rattle.tera_expect.specs.Taking.{GoesOn}
use Rattle.tera_tags.specs.Known.{CameBefore, located_of}
use Rattle.tera_statements.specs.Templates.{TopOf, phase_of}
use Rattle.tera_tree.specs.Outputs.{output_view}
use Rattle.tera_statements.proofs.templates.whole.Given as goal

abbrev pub invariant-items : goal.invariant-items
invariant-items l = record {
  top : TopOf (limits_of l.setting.limits) l.fn.cursor.left (here l.names l.cursor) (output_view l.output) (phase_of l.phase);
  later : GoesOn l.fn.cursor l.cursor;
  came : CameBefore (located_of l.names.components) l.cursor.left l.fn.cursor.left;
}

abbrev pub decreases-items : goal.decreases-items
decreases-items l = size l.cursor.left
