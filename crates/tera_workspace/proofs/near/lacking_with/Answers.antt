use Rattle.std.proofs.Common.{◌≡◌, ◌∙◌, ◌<◌, Bor, length, get_or, map, set, string_bytes, Some, ap, sym, arith}
use Rattle.std.specs.Prelude.{slice_get}
use Rattle.std.proofs.lemmas.List.{get_or_read, length-map}
use Rattle.tera_workspace.specs.Near.{own_lacking}
use Rattle.tera_workspace.specs.declared.sites.KeptDocument.{KeptDocument}
use Rattle.tera_workspace.proofs.NearSteps.{at_index, lacking_more}
use Rattle.tera_workspace.proofs.RenewedLemmas.{own_all, set_here, set_there}
use Rattle.tera_workspace.proofs.near.lacking_with.Goals as goal
use Rattle.tera_workspace.proofs.near.lacking_with.Goals.{then-number-at, else-number-at}

pub returns-then-len : goal.returns-then-len
returns-then-len c =
    let kept = c.args.kept.now.items in
    let before = c.args.before.now.items in
    let lacked = c.in_ok-lacked.lacked.items in
    let at = c.args.at in
    let d = c.index.result.now in
    let here : slice_get kept at ≡ Some d = at_index kept at d c.requires.at (get_or_read kept at d c.requires.at c.index.ensures d) in
    let many : length (map string_bytes before) ≡ length (own_lacking d) =
    (let l = length-map before string_bytes in let m = length-map lacked string_bytes in let w = ap length c.in_ok-lacked.ensures in let e = c.if-len.true in omega (arith, l, m, w, e)) in
    c.in_ok-own.ensures ∙ sym (own_all kept at d c.args.document.now (map string_bytes before) here c.requires.before many)

pub loop-number-preserved : goal.loop-number-preserved
loop-number-preserved c =
    let kept = c.args.kept.now.items in
    let document = c.args.document.now in
    let at = c.args.at in
    let number = c.loop-number.number in
    let own = c.if-number-at.own.now in
    let other = c.other-item.result in
    let within : number < length kept = omega (arith, ap length c.deref-other-items.ensures.value) in
    let is : slice_get kept number ≡ Some other =
    at_index kept number other within (get_or_read kept number other within (c.other-item.is ∙ ap (λ xs. get_or xs number other) c.deref-other-items.ensures.value) other) in
    let here : slice_get (set kept at document) number ≡ Some own = elim c.if-number-at.branch [
      | then-number-at w ↦
          let same : number ≡ at = w.if-number-at.true in
          ap (slice_get (set kept at document)) same ∙ set_here kept at document (omega (arith, within, same)) ∙ ap Some (sym (ap (λ (b : Bor KeptDocument). b.now) w.own-is))
      | else-number-at w ↦
          set_there kept at number document w.if-number-at.false ∙ is ∙ ap Some (sym (ap (λ (b : Bor KeptDocument). b.now) w.own-is))
    ] in
    lacking_more (set kept at document) number own (map string_bytes c.loop-number.lacking.items) (map string_bytes c.push_lacking.new.lacking.items) here c.in_ok-push_lacking.ensures c.loop-number.invariant
