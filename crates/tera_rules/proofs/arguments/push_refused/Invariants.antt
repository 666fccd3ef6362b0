use Rattle.std.proofs.Common.{◌≡◌, ◌++◌, List, length, map}
use Rattle.tera_findings.specs.Findings.{finding_view}
use Rattle.tera_rules.specs.Judged.{known_view, refused_findings}
use Rattle.tera_rules.specs.Passed.{PassedVal, passed_view, AreNamesOf}
use Rattle.tera_rules.proofs.arguments.push_refused.Given as goal

abbrev pub invariant-values : goal.invariant-values
invariant-values l =
    (done : List PassedVal) × (map passed_view l.passed.items ++ done ≡ map passed_view l.fn.passed.items)
    × (map finding_view l.findings.items ≡ map finding_view l.fn.findings.items ++ refused_findings (known_view l.known) done)
    × AreNamesOf l.later done

abbrev pub decreases-values : goal.decreases-values
decreases-values l = length l.passed.items
