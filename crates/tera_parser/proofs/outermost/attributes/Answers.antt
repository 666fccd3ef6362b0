use Rattle.tera_expr_parts.specs.Allowed.{limits_of}
use Rattle.tera_parser.proofs.PromisesLemmas.{attributes_found, attributes_complete}
use Rattle.tera_parser.proofs.outermost.attributes.Goals as goal

pub returns-clause-found : goal.returns-clause-found
returns-clause-found c = attributes_found (limits_of c.args.scope.limits) c.args.scope.in_loop c.args.cursor.now c.attributes.new.cursor c.attributes.result c.attributes.ensures.gives c.attributes.ensures.later

pub returns-clause-complete : goal.returns-clause-complete
returns-clause-complete c = attributes_complete (limits_of c.args.scope.limits) c.args.scope.in_loop c.args.cursor.now c.attributes.new.cursor c.attributes.result c.attributes.ensures.gives
