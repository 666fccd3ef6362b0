use Rattle.tera_expr_parts.specs.Allowed.{limits_of}
use Rattle.tera_expr_reader.proofs.OutermostLemmas.{attributes_alone}
use Rattle.tera_expr_reader.proofs.outermost.attributes.Goals as goal

pub returns-clause-gives : goal.returns-clause-gives
returns-clause-gives c =
    attributes_alone (limits_of c.args.scope.limits) c.args.scope.in_loop c.args.cursor.now.left c.attributes.new.cursor.left c.attributes.new.links c.attributes.result
    (rw (c.outermost.ensures.reader, c.outermost.ensures.room, c.outermost.ensures.scope) at c.attributes.ensures.gives)
