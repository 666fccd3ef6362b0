use Rattle.std.proofs.Common.{◌≡◌, drop}
use Rattle.std.specs.List.{list_any}
use Rattle.tera_jobs.specs.Found.{is_wrong}
use Rattle.tera_jobs.proofs.found.has_error.Given as goal

abbrev pub invariant-loop-found : goal.invariant-loop-found
invariant-loop-found l = list_any is_wrong (drop l.found-index l.all) ≡ list_any is_wrong l.all
