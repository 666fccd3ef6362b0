use Rattle.std.proofs.Common.{refl}
use Rattle.tera_tree.proofs.CallNames.{listed_more, listed_all}
use Rattle.tera_fixes.proofs.names.component_names.Goals as goal

pub loop-name-init : goal.loop-name-init
loop-name-init c = rw (c.new-names.ensures.items, c.into_iter-name-iterator.ensures.into_iter_gives, c.keys-name-items.ensures.rest) refl

pub loop-name-preserved : goal.loop-name-preserved
loop-name-preserved c =
    rw c.in_ok-push.ensures.items (listed_more c.loop-name.names.items c.as_str.result c.in-Some.name.now c.next.new.self c.loop-name.name-iterator _ c.loop-name.invariant c.in-Some.ensures.steps c.as_str.ensures.value)

pub returns : goal.returns
returns c = listed_all c.loop-name.names.items c.loop-name.name-iterator _ c.loop-name.invariant c.in-None.ensures.steps.0
