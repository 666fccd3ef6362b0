use Rattle.tera_parser.proofs.EndsLemmas.{path_ended}
use Rattle.tera_parser.proofs.PromisesLemmas.{path_was_found, path_complete}
use Rattle.tera_parser.proofs.components.component_name.Goals as goal

pub returns-clause-found : goal.returns-clause-found
returns-clause-found c = path_was_found c.args.cursor.now c.component_name.new.cursor c.component_name.result c.component_name.ensures.gives c.component_name.ensures.later

pub returns-clause-ends : goal.returns-clause-ends
returns-clause-ends c = path_ended c.args.cursor.now.left c.component_name.new.cursor.left c.component_name.result c.component_name.ensures.gives

pub returns-clause-complete : goal.returns-clause-complete
returns-clause-complete c = path_complete c.args.cursor.now c.component_name.new.cursor c.component_name.result c.component_name.ensures.gives
