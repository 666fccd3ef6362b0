use Rattle.tera_statements.proofs.ItemsLemmas.{entered, opens_tag}
use Rattle.tera_statements.proofs.items.enter.Goals as goal

pub returns-clause-enters : goal.returns-clause-enters
returns-clause-enters c = rw c.in_ok-pass-2.ensures.passes.1.5 (entered _ c.args.cursor.now.left _ _ _ _ _ _ (opens_tag c.args.opener c.args.cursor.now.left c.requires) c.in_ok-pass.ensures.passes.1.1 c.in_ok-pass-2.ensures.passes.1.1)
