use Rattle.std.proofs.Common.{◌≡◌, get_or}
use Rattle.tera_check.specs.UnusedComponents.{is_called}
use Rattle.tera_check.proofs.UnusedLemmas.{next_template}
use Rattle.tera_check.proofs.unused_components.called_in.Goals as goal

pub loop-template-preserved : goal.loop-template-preserved
loop-template-preserved c = λ n.
    let ts = c.deref-template-items.result.now in
    let at = c.loop-template.template-index in
    let t = c.template-item.result in
    let is : t ≡ get_or ts at t = cc in
    next_template n ts at t (is_called c.loop-template.called n) (is_called c.put_called.new.called n) c.loop-template-test.true is (c.loop-template.invariant n) (c.in_ok-put_called.ensures n)
