use Rattle.tera_expr_parts.specs.Allowed.{limits_of}
use Rattle.tera_parser.proofs.PromisesLemmas.{kwargs_were_found, kwargs_complete}
use Rattle.tera_parser.proofs.outermost.kwargs.Goals as goal

pub returns-clause-found : goal.returns-clause-found
returns-clause-found c = kwargs_were_found (limits_of c.args.scope.limits) c.args.scope.in_loop c.args.cursor.now c.kwargs.new.cursor c.kwargs.result c.kwargs.ensures.gives c.kwargs.ensures.later

pub returns-clause-complete : goal.returns-clause-complete
returns-clause-complete c = kwargs_complete (limits_of c.args.scope.limits) c.args.scope.in_loop c.args.cursor.now c.kwargs.new.cursor c.kwargs.result c.kwargs.ensures.gives
