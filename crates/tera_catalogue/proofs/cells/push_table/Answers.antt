use Rattle.tera_catalogue.proofs.StepLemmas.{on_ok, four}
use Rattle.tera_catalogue.proofs.cells.push_table.Goals as goal

pub returns : goal.returns
returns c =
    on_ok c.push-2.result c.push-2.ensures (λ last.
    four _ _ _ _ _ _ _ _ _ c.in_ok-push.ensures
    (rw c.args-arguments.ensures at c.in_ok-push_rows.ensures)
    (rw c.rest_param-rest.ensures at c.in_ok-push_rest.ensures)
    last)
