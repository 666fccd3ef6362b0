use Rattle.std.proofs.Common.{◌≡◌, ◌∙◌, ◌∷◌, [], ◌++◌, map, sym, ap, subst, append-nil, OnOk}
use Rattle.tera_findings.specs.Findings.{finding_view}
use Rattle.tera_templates.specs.Ignores.{ignore_view}
use Rattle.tera_check.proofs.SilencedLemmas.{no_unused, one_unused}
use Rattle.tera_check.proofs.silenced.push_if_unused.Goals as goal

pub returns-in_ok-unused : goal.returns-in_ok-unused
returns-in_ok-unused c = λ found are.
    let i = ignore_view c.args.ignore.now in
    let old = map finding_view c.args.findings.now.items in
    let is = sym (c.is_unused.ensures found are) ∙ c.if-is_unused.true in
    subst (λ fs. OnOk c.push_finding.result (map finding_view c.push_finding.new.findings.items ≡ old ++ fs))
    (ap (λ f. f ∷ []) c.in_ok-unused.ensures ∙ sym (one_unused c.args.is_open found i is))
    c.push_finding.ensures

pub returns-else-is_unused : goal.returns-else-is_unused
returns-else-is_unused c = λ found are.
    let i = ignore_view c.args.ignore.now in
    let old = map finding_view c.args.findings.now.items in
    let is = sym (c.is_unused.ensures found are) ∙ c.if-is_unused.false in
    sym (append-nil old) ∙ ap (λ fs. old ++ fs) (sym (no_unused c.args.is_open found i is))
