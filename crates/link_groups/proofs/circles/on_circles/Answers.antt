use Rattle.std.proofs.Common.{◌≡◌, ◌∙◌, ◌+◌, ◌<◌, ◌++◌, ◌∷◌, [], ℕ, true, false, ap, arith, get_or, length, map, sym, subst}
use Rattle.std.specs.Prelude.{◌↔◌}
use Rattle.std.proofs.lemmas.List.{get_or-map, length-append}
use Rattle.link_groups.specs.Groups.{IsOnCircle, links_at}
use Rattle.link_groups.proofs.CircleLemmas.{one_on}
use Rattle.link_groups.proofs.circles.on_circles.Goals as goal

pub loop-thing-preserved : goal.loop-thing-preserved
loop-thing-preserved c =
    let links = map (λ v. v.items) c.args.links.now in
    let at = c.loop-thing.thing in
    let own = c.index-links-thing.result in
    let on = c.loop-thing.on.items in
    let b = c.is_on_circle.result in
    let here : links_at links at ≡ own.items =
    get_or-map (λ v. v.items) c.args.links.now at own [] c.loop-thing-test.true ∙ ap (λ v. v.items) (sym c.index-links-thing.is) in
    let long : length (on ++ b ∷ []) ≡ at + 1 = (let l = length-append on (b ∷ []) in let k = c.loop-thing.invariant.0 in omega (arith, l, k)) in (
      ap length c.in_ok-push.ensures.items ∙ long,
      subst (λ xs. (i : ℕ) → i < at + 1 → (get_or xs i false ≡ true) ↔ IsOnCircle links i) (sym c.in_ok-push.ensures.items)
          (one_on links on b at c.loop-thing.invariant.0 c.loop-thing.invariant.1 (c.is_on_circle.ensures links c.in_ok-groups.ensures here)),
    )
