use Rattle.std.proofs.Common.{◌≡◌, ◌∙◌, ◌<◌, arith, ap, get_or, length, refl, sym, subst}
use Rattle.std.specs.List.{Contains}
use Rattle.std.proofs.lemmas.List.Elements.{Contains-get_or}
use Rattle.link_groups.specs.Groups.{Reaches, links_at}
use Rattle.link_groups.proofs.CircleLemmas.{is_not_on, is_on, no_more}
use Rattle.link_groups.proofs.Steps.{no_way}
use Rattle.link_groups.proofs.circles.is_on_circle.Goals as goal

pub loop-other-init : goal.loop-other-init
loop-other-init c = λ all h same k below to. omega (arith, below)

pub returns-then-leads_back : goal.returns-then-leads_back
returns-then-leads_back c = λ all h same.
    let own = c.deref-other-items.result.now in
    let at = c.loop-other.other-index in
    let here : links_at all c.args.thing ≡ own = same ∙ sym c.deref-other-items.ensures.value in
    let inside : at < length own = c.loop-other-test.true in
    let link : Contains (links_at all c.args.thing) (get_or own at 0) = subst (λ xs. Contains xs (get_or own at 0)) (sym here) (Contains-get_or own at 0 inside) in
    (λ t. is_on all own c.args.thing at here inside ((c.leads_back.ensures.back all h link).0 c.if-leads_back.true), λ circle. refl)

pub loop-other-preserved : goal.loop-other-preserved
loop-other-preserved c = λ all h same k below.
    let own = c.deref-other-items.result.now in
    let xs = c.args.links.now.items in
    let at = c.loop-other.other-index in
    let e : own ≡ xs = c.deref-other-items.ensures.value in
    let inside : at < length own = c.loop-other-test.true in
    let link : Contains (links_at all c.args.thing) (get_or own at 0) =
    subst (λ ys. Contains ys (get_or own at 0)) (sym (same ∙ sym e)) (Contains-get_or own at 0 inside) in
    let last : Reaches all (get_or xs at 0) c.args.thing → ⊥ = λ to.
    no_way (sym c.if-leads_back.false ∙ (c.leads_back.ensures.back all h link).1 (subst (λ ys. Reaches all (get_or ys at 0) c.args.thing) (sym e) to)) in
    no_more all xs c.args.thing at (subst (λ ys. at < length ys) e inside) (c.loop-other.invariant all h same) last k below

pub returns : goal.returns
returns c = λ all h same.
    let xs = c.args.links.now.items in
    let l : length c.deref-other-items.result.now ≡ length xs = ap length c.deref-other-items.ensures.value in
    let end = c.loop-other-test.false in (
      λ t. absurd (no_way t),
      λ circle. absurd (is_not_on all xs c.args.thing same
          (λ k inside. c.loop-other.invariant all h same k (omega (arith, inside, l, end))) circle),
    )
