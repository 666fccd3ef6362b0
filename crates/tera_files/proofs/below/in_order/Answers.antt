use Rattle.std.proofs.Common.{rules}
use Rattle.tera_files.proofs.BelowLemmas.{by_path, in_order}
use Rattle.tera_files.proofs.below.in_order.Goals as goal

pub returns-clause-sorted : goal.returns-clause-sorted
returns-clause-sorted c = in_order c.sort_by.new.self.items (by_path c.sort_by.new.self.items c.in_ok-sort_by.ensures.sorted (λ a r q k. search rules))
