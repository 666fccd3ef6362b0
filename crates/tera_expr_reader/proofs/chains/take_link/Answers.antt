use Rattle.tera_expr_reader.proofs.ChainsLemmas.{link_taken, link_took}
use Rattle.tera_expr_reader.proofs.chains.take_link.Goals as goal

pub returns-clause-past : goal.returns-clause-past
returns-clause-past c = link_taken c.args.cursor.now c.skip.new.self c.skip.result c.skip.ensures.skips c.skip.ensures.sight c.requires

pub returns-clause-later : goal.returns-clause-later
returns-clause-later c = link_took c.args.cursor.now c.skip.new.self c.skip.result c.skip.ensures.skips c.skip.ensures.sight c.requires
