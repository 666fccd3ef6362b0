use Rattle.tera_catalogue.proofs.StepLemmas.{on_ok, eight}
use Rattle.tera_catalogue.proofs.objects.write_parameter.Goals as goal

pub returns : goal.returns
returns c =
    on_ok c.token-2.result c.token-2.ensures.ok (λ last.
    eight _ _ _ _ _ _ _ _ _ _ _ _ _ _ _ _ _ c.in_ok-token.ensures.ok
    (rw c.name-2.ensures at c.in_ok-write_text.ensures)
    (rw (c.parameter_place-place.ensures, c.name.ensures) at c.in_ok-write_place.ensures)
    (rw c.type_name.ensures at c.in_ok-write_maybe.ensures)
    (rw c.is_required.ensures at c.in_ok-write_truth.ensures)
    (rw c.is_implicit.ensures at c.in_ok-write_truth-2.ensures)
    (rw c.default.ensures at c.in_ok-write_default.ensures)
    last)
