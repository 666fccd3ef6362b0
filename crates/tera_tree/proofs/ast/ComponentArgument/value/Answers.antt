use Rattle.std.proofs.Common.{◌≡◌, Err, refl, rules}
use Rattle.tera_tree.proofs.Coming.{passed}
use Rattle.tera_tree.proofs.ast.ComponentArgument.value.Goals as goal

pub returns-in_err-value : goal.returns-in_err-value
returns-in_err-value g c =
    let same : c.from_residual.result ≡ Err c.in_err-value.field-0.0 = search rules in
    rw same (passed _ _ _ (Err c.in_err-value.field-0.0, record { shown = c.args.name; shows = refl; says = record { met = c.in_err-value.ensures } }, refl))
