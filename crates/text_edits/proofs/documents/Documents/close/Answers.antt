use Rattle.std.proofs.Common.{None}
use Rattle.text_edits.proofs.Texts.{opened_after}
use Rattle.text_edits.proofs.documents.Documents.close.Goals as goal

pub returns : goal.returns
returns c = λ q.
    let ds = c.args.self.now in
    opened_after c.args.name.now ds.opened c.remove.new.self ds.stored None c.remove.ensures.updates q
