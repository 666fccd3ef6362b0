use Rattle.std.proofs.Common.{ap, ◌∙◌}
use Rattle.std.specs.Option.{option_map}
use Rattle.tera_tree.specs.View.{argument_view}
use Rattle.tera_rules.proofs.JudgedLemmas.{argument_after, found_argument}
use Rattle.tera_rules.proofs.arguments.argument_of.Goals as goal

pub returns : goal.returns
returns c = argument_after c.get.result ∙ ap (option_map argument_view) c.get.ensures.value ∙ found_argument c.args.name.now c.args.known.now.definition.now.kwargs.entries
