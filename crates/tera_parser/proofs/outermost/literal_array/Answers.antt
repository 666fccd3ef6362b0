use Rattle.tera_expr_parts.specs.Allowed.{limits_of}
use Rattle.tera_parser.proofs.PromisesLemmas.{array_was_found, array_complete}
use Rattle.tera_parser.proofs.outermost.literal_array.Goals as goal

pub returns-clause-found : goal.returns-clause-found
returns-clause-found c = array_was_found (limits_of c.args.limits) c.args.cursor.now c.literal_array.new.cursor c.literal_array.result c.literal_array.ensures.gives c.literal_array.ensures.later

pub returns-clause-complete : goal.returns-clause-complete
returns-clause-complete c = array_complete (limits_of c.args.limits) c.args.cursor.now c.literal_array.new.cursor c.literal_array.result c.literal_array.ensures.gives
