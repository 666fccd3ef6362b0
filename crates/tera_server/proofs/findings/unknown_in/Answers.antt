use Rattle.std.proofs.Common.{◌≡◌, ◌∙◌, [], map, IfOk, Option, sym, ap, subst}
use Rattle.std.specs.Option.{option_map, option_map_or}
use Rattle.tera_workspace.specs.Diagnostics.{diagnostic_view}
use Rattle.tera_workspace.specs.Unregistered.{unknown_of_name}
use Rattle.tera_editor.specs.Settings.{SettingsVal, registered_in, settings_view}
use Rattle.tera_server.proofs.findings.unknown_in.Goals as goal

pub returns-in-Some : goal.returns-in-Some
returns-in-Some c =
    let unknown = λ (settings : Option SettingsVal). option_map_or (λ s. unknown_of_name c.args.workspace.now (registered_in s) c.args.name.now) settings [] in
    subst (λ settings. IfOk c.unknown_by.result (λ v. map diagnostic_view v.items ≡ unknown settings))
    (sym (ap (option_map (λ s. settings_view s.now)) c.in-Some.is) ∙ c.listing.ensures)
    c.unknown_by.ensures

pub returns-in-None : goal.returns-in-None
returns-in-None c =
    let unknown = λ (settings : Option SettingsVal). option_map_or (λ s. unknown_of_name c.args.workspace.now (registered_in s) c.args.name.now) settings [] in
    ap (map diagnostic_view) c.new.ensures.items ∙ ap unknown (sym (ap (option_map (λ s. settings_view s.now)) c.in-None.is) ∙ c.listing.ensures)
