use Rattle.std.proofs.Common.{◌≡◌, get_or}
use Rattle.std.specs.BTreeSet.{contains_text}
use Rattle.tera_rules.proofs.BodiesLemmas.{next_definition}
use Rattle.tera_rules.proofs.bodies.hidden_bodies.Goals as goal

pub loop-definition-preserved : goal.loop-definition-preserved
loop-definition-preserved c = λ n.
    let ds = c.deref-definition-items.result.now in
    let at = c.loop-definition.definition-index in
    let d = c.definition-item.result in
    let is : d ≡ get_or ds at d = cc in
    next_definition n ds at d _ (contains_text c.loop-definition.hidden n) (contains_text c.put_if_hidden.new.hidden n) c.loop-definition-test.true is
    (c.loop-definition.invariant n) (c.in_ok-put_if_hidden.ensures n)
