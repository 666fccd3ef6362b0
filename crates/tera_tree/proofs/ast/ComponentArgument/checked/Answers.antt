use Rattle.tera_tree.proofs.Coming.{refused}
use Rattle.tera_tree.proofs.RefusedArguments.{wrong_type}
use Rattle.tera_tree.proofs.ast.ComponentArgument.checked.Goals as goal

pub returns-else-matches_value : goal.returns-else-matches_value
returns-else-matches_value c =
    refused _ _ _ _ (wrong_type _ c.args.self.now.typ c.in-Some.typ _ c.in-Some.is c.if-matches_value.ensures) (c.message_error.ensures _ c.wrong_type-message.ensures)
