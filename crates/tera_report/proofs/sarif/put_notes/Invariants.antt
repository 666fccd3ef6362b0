use Rattle.std.proofs.Common.{◌≡◌, ◌++◌, drop, map}
use Rattle.std.specs.List.{flat_map}
use Rattle.tera_findings.specs.Findings.{note_view}
use Rattle.tera_report.specs.Logs.{note_object}
use Rattle.tera_report.proofs.sarif.put_notes.Given as goal

abbrev pub invariant-loop-note : goal.invariant-loop-note
invariant-loop-note l = record {
  tokens : l.initial.out.tokens ++ flat_map note_object (map note_view l.note-items)
      ≡ l.out.tokens ++ flat_map note_object (map note_view (drop l.note-index l.note-items));
  before : l.out.before ≡ l.initial.out.before;
}
