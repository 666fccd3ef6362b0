use Rattle.tera_tree.specs.Definitions.{named_value}
use Rattle.tera_tree.proofs.Defined.{seen_alike}
use Rattle.tera_tree.proofs.definitions.copy_metadata.Goals as goal

pub returns : goal.returns
returns c = seen_alike named_value _ (λ x y same. λ i. (same.0 i, same.1 i)) c.args.metadata.now.entries c.in_ok-copies.copies.entries c.in_ok-copies.ensures.cases
