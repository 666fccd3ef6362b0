-- Findings, one by one.
use Rattle.std.proofs.Common.{◌≡◌, List, [], ◌∷◌, ◌++◌, map}
use Rattle.std.proofs.lemmas.List.{map-append}
use Rattle.tera_findings.specs.Findings.{finding_view}
use Rattle.tera_findings.specs.declared.finding.Finding.{Finding}

pub finding_more : (fs : List Finding) (f : Finding) → map finding_view (fs ++ f ∷ []) ≡ map finding_view fs ++ (finding_view f ∷ [])
finding_more fs f = map-append finding_view fs (f ∷ [])
