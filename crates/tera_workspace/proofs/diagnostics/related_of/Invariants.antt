use Rattle.std.proofs.Common.{◌≡◌, map}
use Rattle.tera_findings.specs.Findings.{note_view}
use Rattle.tera_workspace.specs.Diagnostics.{related_view, related_of}
use Rattle.tera_workspace.specs.Kept.{sources_of}
use Rattle.tera_workspace.proofs.diagnostics.related_of.Given as goal

abbrev pub invariant-loop-note : goal.invariant-loop-note
invariant-loop-note l =
    map related_view l.related.items ≡ map (related_of l.encoding (sources_of l.all.items)) (map note_view l.yielded)
