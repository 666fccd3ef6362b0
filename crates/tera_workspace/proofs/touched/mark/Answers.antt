use Rattle.std.proofs.Common.{◌≡◌, ◌∙◌, ◌<◌, length, get_or, true, false, sym, ap, arith}
use Rattle.tera_workspace.proofs.MarkLemmas.{marked_next}
use Rattle.tera_workspace.proofs.touched.mark.Goals as goal
use Rattle.tera_workspace.proofs.touched.mark.Goals.{then-becomes_stale, else-becomes_stale}

pub loop-judged-preserved : goal.loop-judged-preserved
loop-judged-preserved c =
    let touched = c.args.touched.now in
    let file = c.args.file.now in
    let old = c.args.all.now.items in
    let items = c.loop-judged.judged-items in
    let i = c.loop-judged.judged-index in
    let j = get_or items i c.judged-item.result in
    let is : j ≡ get_or items i j = ap (get_or items i) c.judged-item.is in
    let within : i < length old = omega (arith, ap length c.deref_mut-judged-items.ensures.value) in
    let next = marked_next touched file old items i j within c.loop-judged.invariant is in
    elim c.if-becomes_stale.branch [
      | then-becomes_stale w ↦ w.judged-items-is ∙ next true (sym w.if-becomes_stale.ensures)
      | else-becomes_stale w ↦ w.judged-items-is ∙ next false (sym w.if-becomes_stale.ensures)
    ]
