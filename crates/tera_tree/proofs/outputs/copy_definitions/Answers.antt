use Rattle.tera_tree.specs.View.{definition_view}
use Rattle.tera_tree.proofs.Defined.{seen_alike}
use Rattle.tera_tree.proofs.outputs.copy_definitions.Goals as goal

pub returns : goal.returns
returns c = seen_alike definition_view _ (λ x y same. same) c.args.definitions.now.items c.in_ok-copies.copies.items c.in_ok-copies.ensures.cases.0
