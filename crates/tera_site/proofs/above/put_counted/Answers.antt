use Rattle.std.proofs.Common.{◌<◌, arith, subst}
use Rattle.std.specs.Prelude.{unwrap_or}
use Rattle.tera_site.specs.Views.{has_name, under_name}
use Rattle.tera_site.proofs.CountLemmas.{put_added, set_now}
use Rattle.tera_site.proofs.above.put_counted.Goals as goal

pub returns : goal.returns
returns c = λ n.
    let more : 0 < c.count_of.result = (let other = c.if-count_of-eq0.false in omega (arith, other)) in
    put_added (has_name c.args.own.now n) (has_name c.insert.new.self n) c.args.block.now n (λ m. unwrap_or (under_name c.args.counts.now m) 0)
    (set_now c.args.block c.args.own.now c.insert.new.self c.in_ok-insert.ensures.updates n)
    (subst (λ k. 0 < k) c.count_of.ensures more)
