use Rattle.tera_catalogue.proofs.StepLemmas.{on_ok, six}
use Rattle.tera_catalogue.proofs.pages.push_section.Goals as goal

pub returns : goal.returns
returns c =
    on_ok c.push.result c.push.ensures (λ last.
    six _ _ _ _ _ _ _ _ _ _ _ _ _
    (rw c.name.ensures at c.in_ok-push_within.ensures)
    c.in_ok-push_place.ensures
    (rw c.call_to_copy.ensures at c.in_ok-push_call.ensures)
    c.in_ok-push_table.ensures
    (rw c.metadata.ensures at c.in_ok-push_metadata.ensures)
    last)
