use Rattle.tera_tree.proofs.Coming.{refused}
use Rattle.tera_tree.proofs.RefusedArguments.{missing}
use Rattle.tera_tree.proofs.ast.ComponentArgument.default_value.Goals as goal

pub returns-in-None : goal.returns-in-None
returns-in-None c = refused _ _ _ _ (missing _ c.args.self.now.default _ _ c.in-None.is) (c.message_error.ensures _ c.missing_argument-message.ensures)
