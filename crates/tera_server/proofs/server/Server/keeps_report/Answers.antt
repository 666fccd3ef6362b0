use Rattle.std.proofs.Common.{◌∙◌, ap, sym}
use Rattle.tera_server.specs.Configuring.{settings_by}
use Rattle.tera_editor.specs.Settings.{reported_in, settings_in}
use Rattle.tera_server.proofs.server.Server.keeps_report.Goals as goal

pub returns-in-Nothing : goal.returns-in-Nothing
returns-in-Nothing c = λ is.
    let old = settings_in c.args.self.now.settings c.args.folder.now in
    ap (λ found. reported_in (settings_by found old)) c.in-Nothing.is ∙ c.is_by.ensures is ∙ c.reported_in-before.ensures

pub returns-in-Set : goal.returns-in-Set
returns-in-Set c = λ is.
    let old = settings_in c.args.self.now.settings c.args.folder.now in
    ap (λ found. reported_in (settings_by found old)) c.in-Set.is ∙ sym c.reported.ensures ∙ c.is_same.ensures is ∙ c.reported_in-before.ensures

pub returns-in-Wrong : goal.returns-in-Wrong
returns-in-Wrong c = λ is. ap (λ found. reported_in (settings_by found (settings_in c.args.self.now.settings c.args.folder.now))) c.in-Wrong.is
