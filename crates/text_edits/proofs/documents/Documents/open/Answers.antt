use Rattle.std.proofs.Common.{◌≡◌, Some, string_bytes}
use Rattle.text_edits.proofs.Texts.{opened_after}
use Rattle.text_edits.proofs.documents.Documents.open.Goals as goal

pub returns-clause-opened : goal.returns-clause-opened
returns-clause-opened c = λ q.
    let name : string_bytes c.in_ok-from_str.field-0 ≡ c.args.name.now = c.in_ok-from_str.ensures.ok in
    let text : string_bytes c.in_ok-text.text ≡ c.args.text.now = c.in_ok-text.ensures.ok in
    let ds = c.args.self.now in
    let h = opened_after (string_bytes c.in_ok-from_str.field-0) ds.opened c.insert.new.self ds.stored (Some c.in_ok-text.text) c.in_ok-insert.ensures.updates q in
    rw (name, text) at h
