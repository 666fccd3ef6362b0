use Rattle.tera_expr_reader.proofs.OutermostLemmas.{component_alone}
use Rattle.tera_expr_reader.proofs.outermost.component_name.Goals as goal

pub returns-clause-gives : goal.returns-clause-gives
returns-clause-gives c = component_alone c.args.cursor.now.left c.dotted_name.new.cursor.left c.dotted_name.result c.dotted_name.ensures.gives
