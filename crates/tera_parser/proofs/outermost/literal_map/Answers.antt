use Rattle.tera_expr_parts.specs.Allowed.{limits_of}
use Rattle.tera_parser.proofs.PromisesLemmas.{map_was_found, map_complete}
use Rattle.tera_parser.proofs.outermost.literal_map.Goals as goal

pub returns-clause-found : goal.returns-clause-found
returns-clause-found c = map_was_found (limits_of c.args.limits) c.args.cursor.now c.literal_map.new.cursor c.literal_map.result c.literal_map.ensures.gives c.literal_map.ensures.later

pub returns-clause-complete : goal.returns-clause-complete
returns-clause-complete c = map_complete (limits_of c.args.limits) c.args.cursor.now c.literal_map.new.cursor c.literal_map.result c.literal_map.ensures.gives
