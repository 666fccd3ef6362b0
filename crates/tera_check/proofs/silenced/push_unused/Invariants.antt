use Rattle.std.proofs.Common.{◌≡◌, ◌++◌, drop, map}
use Rattle.tera_findings.specs.Findings.{finding_view}
use Rattle.tera_templates.specs.Ignores.{ignores_view}
use Rattle.tera_check.specs.Silenced.{unused_among}
use Rattle.tera_check.proofs.silenced.push_unused.Given as goal

abbrev pub invariant-loop-ignore : goal.invariant-loop-ignore
invariant-loop-ignore l =
    map finding_view l.initial.findings.items ++ unused_among l.is_open (map finding_view l.found.items) (ignores_view l.ignore-items)
    ≡ map finding_view l.findings.items ++ unused_among l.is_open (map finding_view l.found.items) (ignores_view (drop l.ignore-index l.ignore-items))
