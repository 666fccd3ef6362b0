use Rattle.std.proofs.Common.{None}
use Rattle.text_edits.proofs.Texts.{stored_after}
use Rattle.text_edits.proofs.documents.Documents.remove_file.Goals as goal

pub returns : goal.returns
returns c = λ q.
    let ds = c.args.self.now in
    stored_after c.args.name.now ds.stored c.remove.new.self ds.opened None c.remove.ensures.updates q
