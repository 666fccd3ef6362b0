use Rattle.std.proofs.Common.{map, subst}
use Rattle.std.specs.List.Sorted.{IsPermutation}
use Rattle.std.proofs.lemmas.List.Sorted.{IsPermutation-map}
use Rattle.tera_templates.specs.declared.fault_findings.Met.{Met}
use Rattle.tera_templates.proofs.fault_findings.all_met.Goals as goal

pub returns-clause-same : goal.returns-clause-same
returns-clause-same c =
    subst (λ fs. IsPermutation fs (map (λ (m : Met). m.fault.now) c.sort_by_key.new.self.items)) c.in_ok-all.ensures.same
    (IsPermutation-map (λ (m : Met). m.fault.now) c.in_ok-all.all.items c.sort_by_key.new.self.items c.in_ok-sort_by_key.ensures.permutation)
