use Rattle.std.proofs.Common.{◌≡◌, Some, string_bytes}
use Rattle.text_edits.proofs.Texts.{stored_after}
use Rattle.text_edits.proofs.documents.Documents.set_file.Goals as goal

pub returns-clause-written : goal.returns-clause-written
returns-clause-written c = λ q.
    let name : string_bytes c.in_ok-from_str.field-0 ≡ c.args.name.now = c.in_ok-from_str.ensures.ok in
    let text : string_bytes c.in_ok-text.text ≡ c.args.text.now = c.in_ok-text.ensures.ok in
    let ds = c.args.self.now in
    let h = stored_after (string_bytes c.in_ok-from_str.field-0) ds.stored c.insert.new.self ds.opened (Some c.in_ok-text.text) c.in_ok-insert.ensures.updates q in
    rw (name, text) at h
