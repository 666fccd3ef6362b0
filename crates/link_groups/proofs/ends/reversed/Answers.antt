use Rattle.std.proofs.Common.{◌≡◌, ◌∙◌, [], ap, arith, length, map, sym, subst}
use Rattle.std.proofs.lemmas.List.{get_or-map, length-map}
use Rattle.link_groups.specs.Ends.{AddsEnds}
use Rattle.link_groups.specs.Groups.{links_at}
use Rattle.link_groups.proofs.EndLemmas.{all_reversed, none_reversed, one_reversed}
use Rattle.link_groups.proofs.ends.reversed.Goals as goal

pub loop-thing-init : goal.loop-thing-init
loop-thing-init c =
    none_reversed (map (λ v. v.items) c.args.links.now) c.args.links.now (map (λ v. v.items) c.in_ok-reversed.reversed.items)
    (sym (length-map c.args.links.now (λ v. v.items))) c.in_ok-reversed.ensures

pub loop-thing-preserved : goal.loop-thing-preserved
loop-thing-preserved c =
    let links = map (λ v. v.items) c.args.links.now in
    let now = map (λ v. v.items) c.loop-thing.reversed.items in
    let next = map (λ v. v.items) c.push_ends.new.reversed.items in
    let at = c.loop-thing.thing in
    let own = c.index-links-thing.result in
    let here : links_at links at ≡ own.items =
    get_or-map (λ v. v.items) c.args.links.now at own [] c.loop-thing-test.true ∙ ap (λ v. v.items) (sym c.index-links-thing.is) in
    one_reversed links now next at c.loop-thing.invariant (subst (λ xs. AddsEnds now xs at next) (sym here) c.in_ok-push_ends.ensures)

pub returns : goal.returns
returns c =
    let links = map (λ v. v.items) c.args.links.now in
    all_reversed links (map (λ v. v.items) c.loop-thing.reversed.items) c.loop-thing.thing
    (let l = length-map c.args.links.now (λ v. v.items) in let e = c.loop-thing-test.false in let b = c.loop-thing.auto.thing-end in omega (arith, l, e, b))
    c.loop-thing.invariant
