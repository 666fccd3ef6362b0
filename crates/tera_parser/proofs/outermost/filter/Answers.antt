use Rattle.tera_expr_parts.specs.Allowed.{limits_of}
use Rattle.tera_parser.proofs.PromisesLemmas.{filter_was_found, filter_complete}
use Rattle.tera_parser.proofs.outermost.filter.Goals as goal

pub returns-clause-found : goal.returns-clause-found
returns-clause-found c = filter_was_found (limits_of c.args.scope.limits) c.args.scope.in_loop c.args.cursor.now c.filter.new.cursor c.filter.result c.filter.ensures.gives c.filter.ensures.later

pub returns-clause-complete : goal.returns-clause-complete
returns-clause-complete c = filter_complete (limits_of c.args.scope.limits) c.args.scope.in_loop c.args.cursor.now c.filter.new.cursor c.filter.result c.filter.ensures.gives
