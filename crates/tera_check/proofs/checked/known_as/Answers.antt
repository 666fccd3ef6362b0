use Rattle.std.proofs.Common.{ap, ◌∙◌}
use Rattle.std.specs.Option.{option_map}
use Rattle.tera_rules.specs.Judged.{known_view}
use Rattle.tera_rules.proofs.JudgedLemmas.{known_after}
use Rattle.tera_check.proofs.checked.known_as.Goals as goal

pub returns : goal.returns
returns c = known_after c.get.result ∙ ap (option_map known_view) c.get.ensures.value
