use Rattle.std.proofs.Common.{string_bytes}
use Rattle.tera_lexer.specs.code.Cursors.{size}
use Rattle.tera_expect.specs.Taking.{Took}
use Rattle.tera_expr_parts.proofs.PathsLemmas.{Joining}
use Rattle.tera_expr_parts.proofs.components.dotted_name.Given as goal

abbrev pub invariant-names : goal.invariant-names
invariant-names l = record {
  joining : Joining l.fn.cursor.left (string_bytes l.text) l.cursor.left;
  later : Took l.fn.cursor l.cursor;
}

abbrev pub decreases-names : goal.decreases-names
decreases-names l = size l.cursor.left
