use Rattle.tera_lexer.specs.code.Cursors.{size}
use Rattle.tera_grammar.specs.statements.Reading.Loops.{Listing}
use Rattle.tera_tags.specs.Known.{CameBefore, located_of}
use Rattle.tera_tags.specs.Parameters.{arguments_view}
use Rattle.tera_expr_parts.specs.Allowed.{limits_of}
use Rattle.tera_expect.specs.Taking.{GoesOn}
use Rattle.tera_tags.proofs.parameters.read_parameters.Given as goal

abbrev pub invariant-parameters : goal.invariant-parameters
invariant-parameters l = record {
  listing : Listing (limits_of l.setting.limits) l.fn.cursor.left l.cursor.left (located_of l.seen) (arguments_view l.arguments.entries);
  later : GoesOn l.fn.cursor l.cursor;
  kept : CameBefore (located_of l.seen) l.cursor.left l.fn.cursor.left;
}

abbrev pub decreases-parameters : goal.decreases-parameters
decreases-parameters l = size l.cursor.left
