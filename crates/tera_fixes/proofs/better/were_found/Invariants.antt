use Rattle.std.proofs.Common.{◌≡◌, drop}
use Rattle.std.specs.List.{list_all}
use Rattle.tera_fixes.specs.Better.{was_found}
use Rattle.tera_fixes.proofs.better.were_found.Given as goal

abbrev pub invariant-loop-finding : goal.invariant-loop-finding
invariant-loop-finding l = list_all (was_found l.before) (drop l.finding-index l.after) ≡ list_all (was_found l.before) l.after
