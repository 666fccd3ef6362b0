use Rattle.std.proofs.Common.{◌≡◌, ◌∙◌, [], IfOk, map, string_bytes, ap, subst, sym}
use Rattle.std.specs.Option.{option_map}
use Rattle.tera_files.specs.Names.{texts}
use Rattle.tera_files.specs.declared.finding.Found.{Found}
use Rattle.tera_editor.specs.Settings.{libraries_in, settings_view}
use Rattle.tera_exchange.specs.Serving.{AreListed, extensions_in, libraries_for}
use Rattle.tera_exchange.proofs.server.libraries.Goals as goal

pub returns-in-None : goal.returns-in-None
returns-in-None g c =
    let s = c.args.server.now in
    let folder = c.args.folder.now in
    let known : libraries_for s folder ≡ [] = ap libraries_in (sym c.settings_for.ensures ∙ ap (option_map (λ s. settings_view s.now)) c.in-None.is) in
    subst (λ ps. IfOk c.listed-in-None.result (λ (found : Found). AreListed (extensions_in s folder) ps (map string_bytes found.files.items))) (sym known) c.listed-in-None.ensures
