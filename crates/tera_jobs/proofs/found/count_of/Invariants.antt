use Rattle.std.proofs.Common.{◌≡◌, ◌^◌, ◌-◌, length, take, min}
use Rattle.std.specs.List.{sum_by}
use Rattle.tera_jobs.proofs.found.count_of.Given as goal

abbrev pub invariant-loop-found : goal.invariant-loop-found
invariant-loop-found l = l.count ≡ min (sum_by (λ found. length found.findings.items) (take l.found-index l.all)) (2 ^ 64 - 1)
