use Rattle.tera_catalogue.proofs.StepLemmas.{on_ok, three}
use Rattle.tera_catalogue.proofs.cells.push_name.Goals as goal

pub returns : goal.returns
returns c =
    on_ok c.push_within.result c.push_within.ensures (λ last. three _ _ _ _ _ _ _ c.in_ok-push.ensures (rw c.sign.ensures at c.in_ok-push-2.ensures) last)
