use Rattle.std.proofs.Common.{◌≡◌, map, IfOk, subst}
use Rattle.tera_rules.specs.Registered.{registered_view}
use Rattle.tera_workspace.specs.Diagnostics.{diagnostic_view}
use Rattle.tera_workspace.specs.Unregistered.{unknown_of_name}
use Rattle.tera_editor.specs.Settings.{settings_view}
use Rattle.tera_editor.proofs.ListLemmas.{same_registered}
use Rattle.tera_server.proofs.findings.unknown_by.Goals as goal

pub returns : goal.returns
returns c =
    subst (λ r. IfOk c.unknown_of.result (λ v. map diagnostic_view v.items ≡ unknown_of_name c.args.workspace.now r c.args.name.now))
    (same_registered (settings_view c.args.settings.now) (registered_view c.in_ok-registered.registered) c.in_ok-registered.ensures)
    c.unknown_of.ensures
