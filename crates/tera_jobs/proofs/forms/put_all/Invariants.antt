use Rattle.std.proofs.Common.{◌≡◌, ◌++◌, drop, map}
use Rattle.std.specs.List.{flat_map}
use Rattle.tera_report.specs.Logs.{result_object}
use Rattle.tera_jobs.specs.Forms.{of_each}
use Rattle.tera_check.specs.Found.{found_view}
use Rattle.tera_jobs.proofs.forms.put_all.Given as goal

abbrev pub invariant-loop-found : goal.invariant-loop-found
invariant-loop-found l = record {
  tokens : l.initial.out.tokens ++ flat_map (of_each result_object) (map found_view l.all)
      ≡ l.out.tokens ++ flat_map (of_each result_object) (map found_view (drop l.found-index l.all));
  before : l.out.before ≡ l.initial.out.before;
}
