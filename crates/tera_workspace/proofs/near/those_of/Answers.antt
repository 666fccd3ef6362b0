use Rattle.std.proofs.Common.{◌≡◌, ◌∙◌, ◌<◌, ◌≤◌, Bor, length, get_or, map, Some, ap, sym, arith}
use Rattle.std.specs.Prelude.{slice_get}
use Rattle.std.proofs.lemmas.List.{get_or_read, map_push}
use Rattle.std.proofs.lemmas.Option.{slice_get-get_or}
use Rattle.tera_workspace.specs.declared.judged.Judged.{Judged}
use Rattle.tera_workspace.proofs.NearSteps.{at_index, those_all, those_next}
use Rattle.tera_workspace.proofs.RenewedLemmas.{viewed}
use Rattle.tera_workspace.proofs.near.those_of.Goals as goal

pub loop-number-preserved : goal.loop-number-preserved
loop-number-preserved c =
    let near = c.args.near.now.items in
    let below = c.args.below.now.items in
    let at = c.loop-number.number-index in
    let items = c.deref-number-items.result.now in
    let n = get_or items at 0 in
    let in_near : at < length near = omega (arith, ap length c.deref-number-items.ensures.value) in
    let here : slice_get near at ≡ Some n = slice_get-get_or near at 0 in_near ∙ sym (ap (λ xs. Some (get_or xs at 0)) c.deref-number-items.ensures.value) in
    let in_below : n < length below = c.requires.within at n here in
    let b = c.index.result.now in
    let judged : slice_get below n ≡ Some b = at_index below n b in_below (get_or_read below n b in_below c.index.ensures b) in
    those_next near (map (λ (j : Bor Judged). j.now) below) (map (λ (j : Bor Judged). j.now) c.loop-number.those.items) (map (λ (j : Bor Judged). j.now) c.push.new.self.items) at n b.now here
    (viewed (λ (j : Bor Judged). j.now) below n b judged)
    (ap (map (λ (j : Bor Judged). j.now)) c.in_ok-push.ensures.items ∙ map_push (λ (j : Bor Judged). j.now) c.loop-number.those.items b)
    c.loop-number.invariant

pub returns : goal.returns
returns c =
    let near = c.args.near.now.items in
    let over : length near ≤ c.loop-number.number-index = omega (arith, ap length c.deref-number-items.ensures.value) in
    those_all near (map (λ (j : Bor Judged). j.now) c.args.below.now.items) (map (λ (j : Bor Judged). j.now) c.loop-number.those.items) c.loop-number.number-index over c.loop-number.invariant
