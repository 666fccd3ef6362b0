use Rattle.tera_base.proofs.ContextViews.{ordered}
use Rattle.tera_base.proofs.contexts.Context.iter.Goals as goal

pub returns-clause-ordered : goal.returns-clause-ordered
returns-clause-ordered c = ordered c.args.self.now.values.entries c.iter.ensures.ordered
