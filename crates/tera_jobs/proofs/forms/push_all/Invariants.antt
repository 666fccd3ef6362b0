use Rattle.std.proofs.Common.{◌≡◌, ◌++◌, ℕ, List, drop, map}
use Rattle.terminal_text.specs.Files.{source_of}
use Rattle.tera_check.specs.Found.{found_view}
use Rattle.tera_jobs.specs.Forms.{all_from, finding_text}
use Rattle.tera_jobs.specs.Helps.{help_in}
use Rattle.tera_jobs.proofs.forms.push_all.Given as goal

abbrev pub invariant-loop-number : goal.invariant-loop-number
invariant-loop-number l = record {
  text : l.initial.to.items ++ all_from (finding_text l.form l.style (source_of l.initial.sources)) (help_in l.helps) 0 (map found_view l.all)
      ≡ l.to.items ++ all_from (finding_text l.form l.style (source_of l.initial.sources)) (help_in l.helps) l.number (map found_view (drop l.number l.all));
  same : (other : List ℕ) → source_of l.sources other ≡ source_of l.initial.sources other;
}
