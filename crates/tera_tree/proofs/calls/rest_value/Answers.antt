use Rattle.std.proofs.Common.{◌≡◌, Ok, Err, Some, None, refl, rules}
use Rattle.tera_tree.proofs.Coming.{gave, passed, refused}
use Rattle.tera_tree.proofs.calls.rest_value.Goals as goal

pub returns-in_err-value : goal.returns-in_err-value
returns-in_err-value g c =
    let same : c.from_residual.result ≡ Err c.in_err-value.field-0.0 = search rules in
    rw same (passed _ _ _ (Err c.in_err-value.field-0.0, record { shown = c.args.name; shows = refl; says = record { met = c.in_err-value.ensures } }, refl))

pub returns-in-Some : goal.returns-in-Some
returns-in-Some g c =
    gave _ _ _ (Ok (Some c.in-Some.value), record { shown = c.args.name; shows = refl; says = record { met = rw c.in-Some.is at c.in_ok-value.ensures } }, refl)

pub returns-in-None : goal.returns-in-None
returns-in-None g c =
    refused _ _ _ _ (Ok None, record { shown = c.args.name; shows = refl; says = record { met = rw c.in-None.is at c.in_ok-value.ensures } }, refl) (c.message_error.ensures _ c.no_value.ensures)
