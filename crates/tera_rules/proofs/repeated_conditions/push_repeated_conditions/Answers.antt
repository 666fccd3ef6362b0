use Rattle.std.proofs.Common.{◌≡◌, ◌∙◌, ◌++◌, map, sym, ap, subst, append-nil, OnOk}
use Rattle.tera_tree.specs.Parts.{part_view}
use Rattle.tera_findings.specs.Findings.{finding_view}
use Rattle.tera_rules.specs.RepeatedConditions.{IsKept, kept, nexts_after, nexts_of, repeated_conditions}
use Rattle.tera_rules.proofs.ConditionsLemmas.{none_found, none_kept}
use Rattle.tera_rules.proofs.repeated_conditions.push_repeated_conditions.Goals as goal

pub push_if_again-requires : goal.push_if_again-requires
push_if_again-requires c = subst (λ p. IsKept (kept c.args.chain.now) (nexts_of p)) c.in-Some.ensures c.requires

pub returns-in-Some-clause-findings : goal.returns-in-Some-clause-findings
returns-in-Some-clause-findings c =
    subst (λ p. OnOk c.push_if_again.result (map finding_view c.push_if_again.new.findings.items ≡ map finding_view c.args.findings.now.items ++ repeated_conditions c.args.file.now p))
    (sym c.in-Some.ensures) c.push_if_again.ensures.findings

pub returns-in-Some-clause-chain : goal.returns-in-Some-clause-chain
returns-in-Some-clause-chain c =
    subst (λ p. OnOk c.push_if_again.result (IsKept (kept c.push_if_again.new.chain) (nexts_after p))) (sym c.in-Some.ensures) c.push_if_again.ensures.chain

pub returns-in-None-clause-findings : goal.returns-in-None-clause-findings
returns-in-None-clause-findings c =
    let old = map finding_view c.args.findings.now.items in
    sym (append-nil old) ∙ ap (λ fs. old ++ fs) (sym (none_found c.args.file.now (part_view c.args.part) c.in-None.ensures))

pub returns-in-None-clause-chain : goal.returns-in-None-clause-chain
returns-in-None-clause-chain c = none_kept (kept c.args.chain.now) c.args.file.now (part_view c.args.part) c.in-None.ensures c.requires
