use Rattle.std.proofs.Common.{ap, ◌∙◌}
use Rattle.tera_base.specs.Values as values
use Rattle.tera_ast.specs.Tree as tree
use Rattle.tera_ast.specs.View.{expression_view}
use Rattle.tera_expr_parts.specs.Allowed.{limits_of}
use Rattle.tera_expr_reader.proofs.OutermostLemmas.{filter_alone}
use Rattle.tera_expr_reader.proofs.outermost.filter.Goals as goal

pub returns-clause-gives : goal.returns-clause-gives
returns-clause-gives c =
    let new = c.filter_with.new.cursor in
    filter_alone (limits_of c.args.scope.limits) c.args.scope.in_loop c.args.cursor.now.left new.left c.filter_with.new.links
    c.args.cursor.now.span (expression_view c.in_ok-input.input) new.span c.filter_with.result
    (c.in_ok-input.ensures ∙ ap (tree.Const values.Nothing) (c.copied.ensures ∙ c.current_span.ensures.span))
    (rw (c.outermost.ensures.reader, c.outermost.ensures.room, c.outermost.ensures.scope) at c.filter_with.ensures.gives)
