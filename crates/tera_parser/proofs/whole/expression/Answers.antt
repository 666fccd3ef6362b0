use Rattle.tera_expr_parts.specs.Allowed.{limits_of}
use Rattle.tera_parser.proofs.PromisesLemmas.{found, complete}
use Rattle.tera_parser.proofs.whole.expression.Goals as goal

pub returns-clause-found : goal.returns-clause-found
returns-clause-found c = found (limits_of c.args.scope.limits) c.args.scope.in_loop c.args.cursor.now c.expression.new.cursor c.expression.result c.expression.ensures.gives c.expression.ensures.later

pub returns-clause-complete : goal.returns-clause-complete
returns-clause-complete c = complete (limits_of c.args.scope.limits) c.args.scope.in_loop c.args.cursor.now c.expression.new.cursor c.expression.result c.expression.ensures.gives
