use Rattle.std.proofs.Common.{◌≡◌, ◌<◌, length, get_or, ap, arith}
use Rattle.tera_workspace.proofs.OpenedLemmas.{stale_next}
use Rattle.tera_workspace.proofs.touched.mark_all.Goals as goal

pub loop-judged-preserved : goal.loop-judged-preserved
loop-judged-preserved c =
    let old = c.args.all.now.items in
    let items = c.loop-judged.judged-items in
    let i = c.loop-judged.judged-index in
    let j = get_or items i c.judged-item.result in
    let is : j ≡ get_or items i j = ap (get_or items i) c.judged-item.is in
    let within : i < length old = omega (arith, ap length c.deref_mut-judged-items.ensures.value) in
    stale_next old items i j within c.loop-judged.invariant is
