use Rattle.std.proofs.Common.{◌∙◌}
use Rattle.tera_statements.proofs.TemplatesLemmas.{blank_by}
use Rattle.tera_rules.proofs.bodies.is_blank.Goals as goal

pub returns : goal.returns
returns c = c.is_empty.ensures ∙ blank_by c.args.text.now c.trim_start.result.now c.trim_start.ensures.trim
