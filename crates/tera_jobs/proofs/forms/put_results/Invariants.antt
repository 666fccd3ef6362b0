use Rattle.std.proofs.Common.{◌≡◌, ◌++◌, drop, map}
use Rattle.std.specs.List.{flat_map}
use Rattle.tera_findings.specs.Findings.{finding_view}
use Rattle.tera_report.specs.Logs.{result_object}
use Rattle.tera_jobs.proofs.forms.put_results.Given as goal

abbrev pub invariant-loop-finding : goal.invariant-loop-finding
invariant-loop-finding l = record {
  tokens : l.initial.out.tokens ++ flat_map (result_object l.file) (map finding_view l.finding-items)
      ≡ l.out.tokens ++ flat_map (result_object l.file) (map finding_view (drop l.finding-index l.finding-items));
  before : l.out.before ≡ l.initial.out.before;
}
