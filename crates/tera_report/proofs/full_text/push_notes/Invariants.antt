use Rattle.std.proofs.Common.{◌≡◌, ◌++◌, ℕ, List, drop, map, string_bytes}
use Rattle.std.specs.List.{flat_map}
use Rattle.tera_findings.specs.Findings.{note_view}
use Rattle.tera_report.specs.FullTexts.{note_text}
use Rattle.terminal_text.specs.Files.{source_of}
use Rattle.tera_report.proofs.full_text.push_notes.Given as goal

-- what was written, and what is left, are the whole
abbrev pub invariant-loop-note : goal.invariant-loop-note
invariant-loop-note l = record {
  text : string_bytes l.to ++ flat_map (note_text l.style (source_of l.initial.sources)) (map note_view (drop l.note-index l.note-items))
      ≡ string_bytes l.initial.to ++ flat_map (note_text l.style (source_of l.initial.sources)) (map note_view l.note-items);
  same : (other : List ℕ) → source_of l.sources other ≡ source_of l.initial.sources other;
}
