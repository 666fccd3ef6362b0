use Rattle.std.proofs.Common.{◌≡◌, ◌++◌, ℕ, List, drop, map}
use Rattle.tera_findings.specs.Findings.{finding_view}
use Rattle.terminal_text.specs.Files.{source_of}
use Rattle.tera_jobs.specs.Forms.{each_from, finding_text}
use Rattle.tera_jobs.specs.Helps.{help_in}
use Rattle.tera_jobs.proofs.forms.push_found.Given as goal

abbrev pub invariant-loop-at : goal.invariant-loop-at
invariant-loop-at l = record {
  text : l.initial.to.items ++ each_from (finding_text l.form l.style (source_of l.initial.sources) l.found.file.now) (help_in l.helps l.number) 0 (map finding_view l.found.findings.items)
      ≡ l.to.items ++ each_from (finding_text l.form l.style (source_of l.initial.sources) l.found.file.now) (help_in l.helps l.number) l.at (map finding_view (drop l.at l.found.findings.items));
  same : (other : List ℕ) → source_of l.sources other ≡ source_of l.initial.sources other;
}
