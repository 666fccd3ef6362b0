use Rattle.std.proofs.Common.{◌≡◌, drop}
use Rattle.std.specs.List.{list_any}
use Rattle.tera_jobs.specs.Found.{is_of_error}
use Rattle.tera_jobs.proofs.found.is_wrong.Given as goal

abbrev pub invariant-loop-finding : goal.invariant-loop-finding
invariant-loop-finding l = list_any is_of_error (drop l.finding-index l.finding-items) ≡ list_any is_of_error l.finding-items
