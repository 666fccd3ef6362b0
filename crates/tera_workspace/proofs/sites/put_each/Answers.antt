use Rattle.std.proofs.Common.{◌≡◌, ◌∙◌, ◌<◌, ◌≤◌, Some, get_or, length, take, refl, ap, sym, arith}
use Rattle.std.specs.Prelude.{slice_get}
use Rattle.std.proofs.lemmas.List.{get_or_read}
use Rattle.std.proofs.lemmas.Option.{slice_get-get_or}
use Rattle.tera_workspace.proofs.NearSteps.{at_index, put_ended, put_next}
use Rattle.tera_workspace.proofs.RenewedLemmas.{each_length}
use Rattle.tera_workspace.proofs.sites.put_each.Goals as goal

pub index_mut-requires : goal.index_mut-requires
index_mut-requires c =
    let kept = c.args.documents.now.items in
    let near = c.args.near.now.items in
    let at = c.loop-at.at in
    let n = get_or c.deref-number-items.result.now at 0 in
    let in_near : at < length near = omega (arith, ap length c.deref-number-items.ensures.value) in
    let here : slice_get near at ≡ Some n = slice_get-get_or near at 0 in_near ∙ sym (ap (λ xs. Some (get_or xs at 0)) c.deref-number-items.ensures.value) in
    let within : n < length kept = c.requires.near.within at n here in
    let same : length c.loop-at.documents.items ≡ length kept = ap length c.loop-at.invariant.put ∙ each_length kept (take at near) (take at c.args.those.items) in
    omega (arith, within, same)

pub loop-at-preserved : goal.loop-at-preserved
loop-at-preserved c =
    let near = c.args.near.now.items in
    let those = c.args.those.items in
    let left = c.loop-at.those.items in
    let at = c.loop-at.at in
    let n = get_or c.deref-number-items.result.now at 0 in
    let f = c.index_mut-in-loop-at.result.now in
    let in_near : at < length near = omega (arith, ap length c.deref-number-items.ensures.value) in
    let here : slice_get near at ≡ Some n = slice_get-get_or near at 0 in_near ∙ sym (ap (λ xs. Some (get_or xs at 0)) c.deref-number-items.ensures.value) in
    let in_left : at < length left = omega (arith, in_near, c.requires.each, c.loop-at.invariant.each) in
    let is : slice_get left at ≡ Some f = at_index left at f in_left (get_or_read left at f in_left c.index_mut-in-loop-at.ensures.value f) in
    put_next c.args.documents.now.items near those at n c.swap.new.x c.swap.new.y c.loop-at.documents.items left _ _ c.requires.each here (is ∙ ap Some (sym c.swap.ensures.x_after)) refl refl c.loop-at.invariant

pub returns : goal.returns
returns c =
    let near = c.args.near.now.items in
    let over : length near ≤ c.loop-at.at = omega (arith, ap length c.deref-number-items.ensures.value) in
    put_ended c.args.documents.now.items near c.args.those.items c.loop-at.at c.loop-at.documents.items c.loop-at.those.items c.requires.each over c.loop-at.invariant
