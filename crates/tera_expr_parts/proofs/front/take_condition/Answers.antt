use Rattle.tera_expr_parts.proofs.FrontsLemmas.{condition_taken, front_took, chosen_kind}
use Rattle.tera_expr_parts.proofs.front.take_condition.Goals as goal

pub returns-clause-past : goal.returns-clause-past
returns-clause-past c = condition_taken c.args.cursor.now c.skip.new.self c.skip.result c.skip.ensures.skips c.skip.ensures.sight c.requires

pub returns-clause-later : goal.returns-clause-later
returns-clause-later c = front_took c.args.cursor.now c.skip.new.self c.skip.result c.skip.ensures.skips c.skip.ensures.sight (chosen_kind _ c.requires)
