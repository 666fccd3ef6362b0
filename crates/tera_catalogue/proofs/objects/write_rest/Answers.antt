use Rattle.tera_catalogue.proofs.StepLemmas.{on_ok, before}
use Rattle.tera_catalogue.proofs.objects.write_rest.Goals as goal

pub returns-in_ok-write_text-in-Some : goal.returns-in_ok-write_text-in-Some
returns-in_ok-write_text-in-Some c =
    rw c.in-Some.is (on_ok c.write_place.result (rw c.parameter_place-place.ensures at c.write_place.ensures) (λ last.
    before _ _ _ _ _ c.in_ok-write_text-in-Some.ensures last))
