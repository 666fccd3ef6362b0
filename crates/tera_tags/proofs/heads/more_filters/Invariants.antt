use Rattle.tera_lexer.specs.code.Cursors.{size}
use Rattle.tera_expr_parts.specs.Allowed.{limits_of}
use Rattle.tera_expect.specs.Taking.{GoesOn}
use Rattle.tera_tags.proofs.FiltersLemmas.{Pipes}
use Rattle.tera_tags.proofs.heads.more_filters.Given as goal

abbrev pub invariant-filters : goal.invariant-filters
invariant-filters l = record {
  piping : Pipes (limits_of l.setting.limits) l.in_loop l.fn.cursor.left l.cursor.left l.fn.before.items l.filters.items;
  later : GoesOn l.fn.cursor l.cursor;
}

abbrev pub decreases-filters : goal.decreases-filters
decreases-filters l = size l.cursor.left
