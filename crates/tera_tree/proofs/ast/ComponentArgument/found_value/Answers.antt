use Rattle.std.proofs.Common.{◌≡◌, true≢false, Ok, Err, refl, sym, ◌∙◌, rules}
use Rattle.tera_base.specs.ValueView.{value_view}
use Rattle.tera_tree.specs.Calls.{default_of, of_type}
use Rattle.tera_tree.specs.View.{argument_view}
use Rattle.tera_tree.proofs.Coming.{otherwise, passed}
use Rattle.tera_tree.proofs.RefusedArguments.{found_none, found_given}
use Rattle.tera_tree.proofs.ast.ComponentArgument.found_value.Goals as goal

pub returns-in_err-value : goal.returns-in_err-value
returns-in_err-value g c =
    let same : c.from_residual.result ≡ Err c.in_err-value.field-0.0 = search rules in
    rw same (passed _ _ _ (Err c.in_err-value.field-0.0, record { shown = c.args.name; shows = refl; says = record { met = c.in_err-value.ensures } }, refl))

pub returns-then-is_undefined : goal.returns-then-is_undefined
returns-then-is_undefined g c =
    otherwise _ (λ o. o ≡ default_of c.args.name.now (argument_view c.args.self.now)) _ _
    (λ o e. (
      Ok c.in_ok-value.value,
      record { shown = c.args.name; shows = refl; says = record { met = c.in_ok-value.ensures } },
      e ∙ sym (found_none _ _ (value_view c.in_ok-value.value) (c.if-is_undefined.ensures.0 refl)),
    ))
    c.default_value.ensures

pub returns-else-is_undefined : goal.returns-else-is_undefined
returns-else-is_undefined g c =
    otherwise _ (λ o. o ≡ of_type c.args.name.now c.args.self.now.typ (value_view c.in_ok-value.value)) _ _
    (λ o e. (
      Ok c.in_ok-value.value,
      record { shown = c.args.name; shows = refl; says = record { met = c.in_ok-value.ensures } },
      e ∙ sym (found_given _ (argument_view c.args.self.now) (value_view c.in_ok-value.value) (λ k. true≢false (sym (c.if-is_undefined.ensures.1 k)))),
    ))
    c.checked.ensures
