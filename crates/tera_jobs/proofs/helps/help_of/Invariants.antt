use Rattle.std.proofs.Common.{◌≡◌, ◌++◌, drop, map}
use Rattle.tera_jobs.proofs.helps.help_of.Given as goal

abbrev pub invariant-loop-finding : goal.invariant-loop-finding
invariant-loop-finding l = l.finding-items ≡ map (λ f. f.now) l.findings.items ++ drop l.finding-index l.finding-items
