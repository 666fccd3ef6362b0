use Rattle.std.proofs.Common.{◌≡◌, ◌++◌, ℕ, List, drop, map, string_bytes}
use Rattle.std.specs.List.{flat_map}
use Rattle.tera_findings.specs.Findings.{finding_view}
use Rattle.tera_report.specs.FullTexts.{full_text}
use Rattle.terminal_text.specs.Files.{source_of}
use Rattle.tera_jobs.proofs.tree.push_faults.Given as goal

abbrev pub invariant-loop-fault : goal.invariant-loop-fault
invariant-loop-fault l = record {
  text : string_bytes l.initial.to ++ flat_map (full_text l.style (source_of l.initial.sources) l.file) (map finding_view l.fault-items)
      ≡ string_bytes l.to ++ flat_map (full_text l.style (source_of l.initial.sources) l.file) (map finding_view (drop l.fault-index l.fault-items));
  same : (other : List ℕ) → source_of l.sources other ≡ source_of l.initial.sources other;
}
