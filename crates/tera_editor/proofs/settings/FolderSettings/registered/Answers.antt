use Rattle.std.proofs.Common.{IfOk, subst}
use Rattle.tera_rules.specs.Registered.{AreListed, list_view, registered_view}
use Rattle.tera_editor.specs.Settings.{settings_view}
use Rattle.tera_editor.proofs.settings.FolderSettings.registered.Goals as goal

pub returns : goal.returns
returns c =
    let s = settings_view c.args.self.now in
    subst (λ ns. IfOk c.of.result (λ r. AreListed ns s.tests s.functions (registered_view r))) c.list_of.ensures
    (subst (λ ns. IfOk c.of.result (λ r. AreListed (list_view c.list_of.result) ns s.functions (registered_view r))) c.list_of-2.ensures
    (subst (λ ns. IfOk c.of.result (λ r. AreListed (list_view c.list_of.result) (list_view c.list_of-2.result) ns (registered_view r))) c.list_of-3.ensures
    c.of.ensures))
