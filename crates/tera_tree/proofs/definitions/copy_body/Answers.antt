use Rattle.tera_ast.specs.View.{node_view}
use Rattle.tera_tree.proofs.Defined.{seen_alike}
use Rattle.tera_tree.proofs.definitions.copy_body.Goals as goal

pub returns : goal.returns
returns c = seen_alike node_view _ (λ x y same. same) c.args.body.now.items c.in_ok-copies.copies.items c.in_ok-copies.ensures.cases.0
