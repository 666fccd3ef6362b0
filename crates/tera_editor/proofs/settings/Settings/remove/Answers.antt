use Rattle.std.proofs.Common.{None, string_bytes}
use Rattle.tera_editor.specs.Settings.{settings_view}
use Rattle.tera_editor.proofs.TextMaps.{seen_after}
use Rattle.tera_editor.proofs.settings.Settings.remove.Goals as goal

pub returns-clause-set : goal.returns-clause-set
returns-clause-set c = λ q.
    seen_after settings_view c.args.folder.now c.args.self.now.of_folders c.remove.new.self None c.remove.ensures.updates q

pub returns-clause-named : goal.returns-clause-named
returns-clause-named c = λ q.
    seen_after string_bytes c.args.folder.now c.args.self.now.files c.remove-2.new.self None c.remove-2.ensures.updates q
