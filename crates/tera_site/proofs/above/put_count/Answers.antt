use Rattle.std.proofs.Common.{Some}
use Rattle.std.proofs.lemmas.Map.Text.{btree_map_updates_str}
use Rattle.tera_site.proofs.above.put_count.Goals as goal

pub returns : goal.returns
returns c = λ n.
    btree_map_updates_str c.args.block.now c.args.counts.now c.insert.new.self (Some c.args.count) c.in_ok-insert.ensures.updates n
