use Rattle.std.proofs.Common.{◌≡◌, None, Some, string_bytes}
use Rattle.tera_editor.specs.declared.editor.Seen.{Seen}
use Rattle.tera_editor.specs.declared.editor.DocumentState.TheVariants.{Lost}
use Rattle.tera_editor.proofs.EditorLemmas.{seen_after}
use Rattle.tera_editor.proofs.editor.Editor.open.Goals as goal

pub returns-clause-opened : goal.returns-clause-opened
returns-clause-opened c = λ q.
    let name : string_bytes c.in_ok-from_str-2.field-0 ≡ c.args.name.now = c.in_ok-from_str-2.ensures.ok in
    let uri : string_bytes c.in_ok-from_str.field-0 ≡ c.args.uri.now = c.in_ok-from_str.ensures.ok in
    let seen : Seen = record { uri = c.in_ok-from_str.field-0; version = None; state = Lost } in
    let h = seen_after (string_bytes c.in_ok-from_str-2.field-0) c.args.self.now.seen c.insert.new.self (Some seen) c.in_ok-insert.ensures.updates q in
    rw (name, uri) at h
