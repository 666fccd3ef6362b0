use Rattle.std.proofs.Common.{drop, map}
use Rattle.std.specs.List.{Contains}
use Rattle.tera_findings.specs.Findings.{finding_view}
use Rattle.tera_templates.specs.Lost.{places_under}
use Rattle.tera_check.specs.Silenced.{has_finding_at}
use Rattle.tera_check.proofs.SilencedLemmas.{IsWith}
use Rattle.tera_check.proofs.silenced.lines_of.Given as goal

abbrev pub invariant-loop-finding : goal.invariant-loop-finding
invariant-loop-finding l =
    IsWith (λ rule line. Contains (places_under l.lines rule) line) (has_finding_at (map finding_view (drop l.finding-index l.finding-items))) (has_finding_at (map finding_view l.finding-items))
