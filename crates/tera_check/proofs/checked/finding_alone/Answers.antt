use Rattle.std.proofs.Common.{◌∷◌, [], ◌++◌, ap, ◌∙◌}
use Rattle.tera_check.proofs.checked.finding_alone.Goals as goal

pub returns : goal.returns
returns c =
    let finding = c.in_ok-finding.finding in
    (finding, c.in_ok-push.ensures.items ∙ ap (λ fs. fs ++ finding ∷ []) c.new-findings.ensures.items, c.in_ok-finding.ensures)
