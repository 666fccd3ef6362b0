use Rattle.std.proofs.Common.{map, subst, ◌∙◌}
use Rattle.std.proofs.lemmas.List.{take_all}
use Rattle.link_groups.specs.Ends.{AddsEnds}
use Rattle.link_groups.proofs.EndLemmas.{no_ends, one_end}
use Rattle.link_groups.proofs.ends.push_ends.Goals as goal

pub loop-end-init : goal.loop-end-init
loop-end-init c = no_ends (map (λ v. v.items) c.args.reversed.now.items) c.args.thing

pub loop-end-preserved : goal.loop-end-preserved
loop-end-preserved c =
    one_end (map (λ v. v.items) c.args.reversed.now.items) (map (λ v. v.items) c.loop-end.reversed.items) (map (λ v. v.items) c.push_end.new.reversed.items)
    c.deref-end-items.result.now c.loop-end.end-index c.args.thing c.loop-end-test.true c.in_ok-push_end.ensures c.loop-end.invariant

pub returns : goal.returns
returns c =
    subst (λ xs. AddsEnds (map (λ v. v.items) c.args.reversed.now.items) xs c.args.thing (map (λ v. v.items) c.loop-end.reversed.items))
    (take_all c.loop-end.end-index c.deref-end-items.result.now c.loop-end-test.false ∙ c.deref-end-items.ensures.value) c.loop-end.invariant
