use Rattle.std.proofs.Common.{◌∙◌, Some, cond, string_bytes, ap}
use Rattle.std.specs.Str.{bytes_eq}
use Rattle.tera_editor.specs.Settings.{settings_view}
use Rattle.tera_editor.proofs.TextMaps.{seen_after}
use Rattle.tera_editor.proofs.settings.Settings.set.Goals as goal

pub returns-clause-set : goal.returns-clause-set
returns-clause-set c = λ q.
    let h = seen_after settings_view (string_bytes c.in_ok-from_str.field-0) c.set_file.new.self.of_folders c.insert.new.self (Some c.args.settings) c.in_ok-insert.ensures.updates q in
    (rw c.in_ok-from_str.ensures.ok at h)
    ∙ ap (λ x. cond (bytes_eq c.args.folder.now q) (Some (settings_view c.args.settings)) x) (c.set_file.ensures.settings q)
