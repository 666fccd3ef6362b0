use Rattle.tera_expr_parts.proofs.FrontsLemmas.{ending_taken, front_took, some_kind}
use Rattle.tera_expr_parts.proofs.front.take_ending.Goals as goal

pub returns-clause-past : goal.returns-clause-past
returns-clause-past c = ending_taken c.args.cursor.now c.skip.new.self c.skip.result c.skip.ensures.skips c.skip.ensures.sight c.args.ending c.requires

pub returns-clause-later : goal.returns-clause-later
returns-clause-later c = front_took c.args.cursor.now c.skip.new.self c.skip.result c.skip.ensures.skips c.skip.ensures.sight (some_kind c.args.ending _ c.requires)
