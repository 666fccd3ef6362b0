use Rattle.std.proofs.Common.{◌≡◌, drop, map}
use Rattle.std.specs.Prelude.{◌++◌, filter}
use Rattle.tera_jobs.specs.Fixing.{is_corrected}
use Rattle.tera_jobs.proofs.fixing.reported_of.Given as goal

-- those so far, and those of the findings that are left
abbrev pub invariant-loop-finding : goal.invariant-loop-finding
invariant-loop-finding l =
    map (λ f. f.now) l.reported.items ++ filter (is_corrected l.rules l.choice) (drop l.finding-index l.finding-items) ≡ filter (is_corrected l.rules l.choice) l.finding-items
