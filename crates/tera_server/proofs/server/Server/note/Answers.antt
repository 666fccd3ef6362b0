use Rattle.std.proofs.Common.{subst}
use Rattle.protocol_values.specs.Members.{seen}
use Rattle.tera_server.specs.Notes.{Edits}
use Rattle.tera_server.proofs.HandleLemmas.{noted_follows}
use Rattle.tera_server.proofs.StepLemmas.{document_step}
use Rattle.tera_server.proofs.server.Server.note.Goals as goal

pub returns-in-OfDocument-clause-in_step : goal.returns-in-OfDocument-clause-in_step
returns-in-OfDocument-clause-in_step c =
    let s = c.args.self.now in
    let t = c.note_document.new.self in
    let params = seen c.args.params in
    λ texts now edits f.
    noted_follows c.args.noted params s t texts now c.in-Running.is c.note_document.ensures.stays.phase
    (λ by. document_step c.in-OfDocument.note params s t c.note_document.result c.note_document.ensures.noted c.note_document.ensures.err texts now
    (subst (λ noted. Edits s.workspace.encoding noted params texts now) c.in-OfDocument.is by))
    edits f
