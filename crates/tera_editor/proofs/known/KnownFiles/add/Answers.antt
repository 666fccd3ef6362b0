use Rattle.std.proofs.Common.{◌≡◌, true, string_bytes}
use Rattle.std.proofs.lemmas.Map.Text.{btree_set_updates_text}
use Rattle.tera_editor.proofs.known.KnownFiles.add.Goals as goal

pub returns-clause-added : goal.returns-clause-added
returns-clause-added c = λ q.
    let name : string_bytes c.in_ok-from_str.field-0 ≡ c.args.name.now = c.in_ok-from_str.ensures.ok in
    let h = btree_set_updates_text (string_bytes c.in_ok-from_str.field-0) c.args.self.now.names c.insert.new.self true c.in_ok-insert.ensures.updates q in
    rw name at h
