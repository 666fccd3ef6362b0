use Rattle.std.proofs.Common.{map}
use Rattle.tera_ast.specs.View.{node_view}
use Rattle.tera_tree.specs.Outputs.{output_view}
use Rattle.tera_statements.proofs.TemplatesLemmas.{with_text}
use Rattle.tera_statements.proofs.templates.add_text.Goals as goal

pub returns-clause-added : goal.returns-clause-added
returns-clause-added c =
    with_text (output_view c.args.output.now) c.args.text.now (map node_view c.push_text.new.nodes.items) c.in_ok-push_text.ensures.pushed
