use Rattle.std.proofs.Common.{◌≡◌, ◌∙◌, ◌++◌, map, sym, ap, subst, OnOk}
use Rattle.std.proofs.lemmas.Result.{IfOk-weaker}
use Rattle.tera_ast.specs.View.{expression_view}
use Rattle.tera_ast.specs.declared.ast.If.{out-If}
use Rattle.tera_findings.specs.Findings.{finding_view}
use Rattle.tera_rules.specs.RepeatedConditions.{IsKept, kept, repeated_if}
use Rattle.tera_rules.proofs.ConditionsLemmas.{after_if, of_if}
use Rattle.tera_rules.proofs.repeated_conditions.push_if_again.Goals as goal

pub returns-clause-findings : goal.returns-clause-findings
returns-clause-findings c =
    let e = expression_view (out-If c.args.choice.now).expr in
    subst (λ fs. OnOk c.push_if_any.result (map finding_view c.push_if_any.new.findings.items ≡ map finding_view c.args.findings.now.items ++ fs))
    (ap (repeated_if c.args.file.now e) c.in_ok-next.ensures.next ∙ sym (of_if c.args.file.now c.args.choice.now))
    c.push_if_any.ensures

pub returns-clause-chain : goal.returns-clause-chain
returns-clause-chain c =
    IfOk-weaker c.push_if_any.result _ _ (λ _ _. subst (IsKept (kept c.next_of.new.chain)) (sym (after_if c.args.choice.now)) c.in_ok-next.ensures.chain) c.push_if_any.ensures
