use Rattle.std.proofs.Common.{◌≡◌, ◌++◌, drop, map}
use Rattle.std.specs.List.{flat_map}
use Rattle.tera_findings.specs.Findings.{note_view}
use Rattle.tera_findings.specs.Objects.{note_object}
use Rattle.tera_findings.proofs.objects.write_notes.Given as goal

abbrev pub invariant-loop-note : goal.invariant-loop-note
invariant-loop-note l = record {
  tokens : l.initial.writer.tokens ++ flat_map note_object (map note_view l.note-items)
      ≡ l.writer.tokens ++ flat_map note_object (map note_view (drop l.note-index l.note-items));
  before : l.writer.before ≡ l.initial.writer.before;
}
