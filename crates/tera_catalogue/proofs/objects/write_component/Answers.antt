use Rattle.tera_catalogue.proofs.StepLemmas.{on_ok, eight}
use Rattle.tera_catalogue.proofs.objects.write_component.Goals as goal

pub returns : goal.returns
returns c =
    on_ok c.token-2.result c.token-2.ensures.ok (λ last.
    eight _ _ _ _ _ _ _ _ _ _ _ _ _ _ _ _ _ c.in_ok-token.ensures.ok
    (rw c.name.ensures at c.in_ok-write_text.ensures)
    c.in_ok-write_text-2.ensures c.in_ok-write_place.ensures c.in_ok-write_info.ensures c.in_ok-write_truth.ensures
    (rw c.call_to_copy.ensures at c.in_ok-write_maybe.ensures)
    last)
