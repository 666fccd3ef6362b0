use Rattle.std.proofs.Common.{◌≡◌, map}
use Rattle.tera_findings.specs.Findings.{finding_view}
use Rattle.tera_workspace.specs.Diagnostics.{diagnostic_view, diagnostic_of}
use Rattle.tera_workspace.specs.Kept.{sources_of}
use Rattle.tera_workspace.proofs.diagnostics.diagnostics_of.Given as goal

abbrev pub invariant-loop-finding : goal.invariant-loop-finding
invariant-loop-finding l =
    map diagnostic_view l.diagnostics.items ≡ map (diagnostic_of l.encoding (sources_of l.all.items) l.judged.text) (map finding_view l.yielded)
