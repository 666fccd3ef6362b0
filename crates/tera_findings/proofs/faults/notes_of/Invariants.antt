use Rattle.std.proofs.Common.{◌≡◌, ◌++◌, drop, map}
use Rattle.tera_base.specs.ErrorView as errors
use Rattle.tera_findings.specs.Findings.{note_view, note_of}
use Rattle.tera_findings.proofs.faults.notes_of.Given as goal

abbrev pub invariant-loop-note : goal.invariant-loop-note
invariant-loop-note l =
    map note_of (map errors.note_view l.note-items)
    ≡ map note_view l.found.items ++ map note_of (map errors.note_view (drop l.note-index l.note-items))
