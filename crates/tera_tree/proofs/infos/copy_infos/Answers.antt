use Rattle.tera_tree.specs.Infos.{arg_view}
use Rattle.tera_tree.proofs.Defined.{seen_alike}
use Rattle.tera_tree.proofs.infos.copy_infos.Goals as goal

pub returns : goal.returns
returns c = seen_alike arg_view _ (λ x y same. same) c.args.described.now.items c.in_ok-copies.copies.items c.in_ok-copies.ensures.cases.0
