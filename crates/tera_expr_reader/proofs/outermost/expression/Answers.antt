use Rattle.tera_expr_parts.specs.Allowed.{limits_of}
use Rattle.tera_expr_reader.proofs.OutermostLemmas.{expression_alone}
use Rattle.tera_expr_reader.proofs.outermost.expression.Goals as goal

pub returns-clause-gives : goal.returns-clause-gives
returns-clause-gives c =
    expression_alone (limits_of c.args.scope.limits) c.args.scope.in_loop c.args.cursor.now.left c.expression.new.cursor.left c.expression.new.links c.expression.result
    (rw (c.widest-room.ensures.room, c.widest-room.ensures.scope) at c.expression.ensures.gives)
