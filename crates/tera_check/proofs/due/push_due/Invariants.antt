use Rattle.std.proofs.Common.{◌≡◌, ◌++◌, map}
use Rattle.std.specs.List.{filter}
use Rattle.tera_check.specs.Due.{is_due}
use Rattle.tera_findings.specs.Findings.{finding_view}
use Rattle.tera_check.proofs.due.push_due.Given as goal

-- what is due of those so far was added
abbrev pub invariant-loop-finding : goal.invariant-loop-finding
invariant-loop-finding l =
    map finding_view l.findings.items ≡ map finding_view l.initial.findings.items ++ filter (is_due l.is_open l.template) (map finding_view l.yielded)
