use Rattle.std.proofs.Common.{Some, string_bytes}
use Rattle.tera_editor.proofs.TextMaps.{seen_after}
use Rattle.tera_editor.proofs.settings.Settings.set_file.Goals as goal

pub returns-clause-named : goal.returns-clause-named
returns-clause-named c = λ q.
    let h = seen_after string_bytes (string_bytes c.in_ok-from_str.field-0) c.args.self.now.files c.insert.new.self (Some c.args.file) c.in_ok-insert.ensures.updates q in
    rw c.in_ok-from_str.ensures.ok at h
