use Rattle.std.proofs.Common.{◌≡◌, map, subst}
use Rattle.std.specs.List.Sorted.{IsPermutation}
use Rattle.std.proofs.lemmas.List.Sorted.{IsPermutation-map}
use Rattle.tera_findings.specs.Findings.{finding_view}
use Rattle.tera_site.proofs.named.names_found.Goals as goal

pub returns-clause-found : goal.returns-clause-found
returns-clause-found c =
    let before = c.in_ok-due.due.items in
    let now = c.put_in_order.new.findings.items in
    subst (λ fs. IsPermutation fs (map finding_view now)) c.in_ok-due.ensures
    (IsPermutation-map finding_view before now c.in_ok-put_in_order.ensures.same)
