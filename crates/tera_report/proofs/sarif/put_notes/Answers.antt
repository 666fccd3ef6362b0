use Rattle.std.proofs.Common.{List, map, refl, sym}
use Rattle.std.specs.List.{flat_map}
use Rattle.json_members.proofs.Putting.{then_all, then_each, token}
use Rattle.tera_findings.specs.Findings.{note_view}
use Rattle.tera_findings.specs.declared.finding.Note.{Note}
use Rattle.tera_report.specs.Logs.{note_object}
use Rattle.tera_report.proofs.sarif.put_notes.Goals as goal

pub returns : goal.returns
returns c =
    let notes : List Note = c.deref-note-items.result.now in
    let held = c.loop-note.invariant in
    rw (sym c.deref-note-items.ensures.value)
    (then_all _ c.in_ok-begin_array.ensures
    (then_each _ (λ (ns : List Note). flat_map note_object (map note_view ns)) notes c.loop-note.note-index refl c.loop-note-test.false held.before held.tokens
    (token _ c.end_array.ensures)))
