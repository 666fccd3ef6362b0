use Rattle.std.proofs.Common.{◌≡◌, ◌^◌, ◌-◌, take, min}
use Rattle.std.specs.List.{count_by}
use Rattle.tera_jobs.specs.Found.{is_faulty}
use Rattle.tera_jobs.proofs.found.faulty_of.Given as goal

abbrev pub invariant-loop-found : goal.invariant-loop-found
invariant-loop-found l = l.count ≡ min (count_by is_faulty (take l.found-index l.all)) (2 ^ 64 - 1)
