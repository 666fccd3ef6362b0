use Rattle.std.proofs.Common.{ap, ◌∙◌}
use Rattle.tera_tree.specs.View.{argument_view}
use Rattle.tera_tags.specs.Parameters.{arguments_view}
use Rattle.tera_tags.proofs.PairsLemmas.{put_named}
use Rattle.tera_tags.proofs.parameters.put_argument.Goals as goal

pub returns-clause-puts : goal.returns-clause-puts
returns-clause-puts c =
    ap arguments_view c.in_ok-_before.ensures.entries ∙ put_named argument_view c.args.arguments.now.entries c.args.name c.args.argument
