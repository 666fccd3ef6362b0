use Rattle.std.proofs.Common.{[], ◌∙◌}
use Rattle.tera_expect.proofs.TakingLemmas.{other_noted}
use Rattle.tera_tags.proofs.CameLemmas.{another_label}
use Rattle.tera_statements.proofs.faults.inside_of.Goals as goal

pub returns-in-Ok-clause-refusal : goal.returns-in-Ok-clause-refusal
returns-in-Ok-clause-refusal c =
    other_noted c.args.cursor.now c.args.cursor.now c.args.error c.noted.result c.as_str.result.now [] c.args.opening.now.at (another_label _ c.as_str.result.now (c.as_str.ensures.value ∙ c.in-Ok.ensures.ok)) c.noted.ensures.adds c.noted.ensures.reports c.requires
