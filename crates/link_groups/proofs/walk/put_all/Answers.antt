use Rattle.std.proofs.Common.{◌∙◌, sym, subst}
use Rattle.std.proofs.lemmas.List.{take_all}
use Rattle.link_groups.specs.Walks.{ArePutIn}
use Rattle.link_groups.specs.declared.walk.Place.TheVariants.{Closed}
use Rattle.link_groups.proofs.Steps.{put_more, put_none}
use Rattle.link_groups.proofs.walk.put_all.Goals as goal

pub loop-thing-init : goal.loop-thing-init
loop-thing-init c = put_none c.args.places.now.items c.args.group

pub loop-thing-preserved : goal.loop-thing-preserved
loop-thing-preserved c =
    subst (ArePutIn c.args.places.now.items _ c.args.group) (sym c.put_place.ensures)
    (put_more c.args.places.now.items c.loop-thing.places.items c.deref-thing-items.result.now c.loop-thing.thing-index c.args.group c.loop-thing-test.true c.loop-thing.invariant)

pub returns : goal.returns
returns c =
    subst (λ xs. ArePutIn c.args.places.now.items xs c.args.group c.loop-thing.places.items)
    (take_all c.loop-thing.thing-index c.deref-thing-items.result.now c.loop-thing-test.false ∙ c.deref-thing-items.ensures.value) c.loop-thing.invariant
