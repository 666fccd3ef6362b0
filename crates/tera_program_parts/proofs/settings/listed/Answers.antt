use Rattle.std.proofs.Common.{IfOk, subst}
use Rattle.tera_settings.specs.Values.{texts_view}
use Rattle.tera_rules.specs.Registered.{AreListed, list_view, registered_view}
use Rattle.tera_program_parts.proofs.settings.listed.Goals as goal

pub returns : goal.returns
returns c =
    let k = c.args.known.now in
    subst (λ ns. IfOk c.of.result (λ r. AreListed ns (texts_view k.tests) (texts_view k.functions) (registered_view r))) c.list_of.ensures
    (subst (λ ns. IfOk c.of.result (λ r. AreListed (list_view c.list_of.result) ns (texts_view k.functions) (registered_view r))) c.list_of-2.ensures
    (subst (λ ns. IfOk c.of.result (λ r. AreListed (list_view c.list_of.result) (list_view c.list_of-2.result) ns (registered_view r))) c.list_of-3.ensures
    c.of.ensures))
