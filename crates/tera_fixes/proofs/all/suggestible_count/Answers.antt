use Rattle.std.proofs.Common.{rules, tests, ◌∙◌, Bor}
use Rattle.std.proofs.lemmas.Iterator.{YieldsList-from_slice}
use Rattle.std.proofs.lemmas.Iterator.Consumers.{YieldsList-from_filter, count_from_yields_List}
use Rattle.tera_findings.specs.declared.finding.Finding.{Finding}
use Rattle.tera_fixes.specs.All.{is_suggestible}
use Rattle.tera_fixes.proofs.AllLemmas.{as_many}
use Rattle.tera_fixes.proofs.all.suggestible_count.Goals as goal

pub returns : goal.returns
returns c =
    count_from_yields_List c.filter.result _ c.count.ensures.ran
    (YieldsList-from_filter _ (λ (f : Bor Finding). is_suggestible f.now.kind) (YieldsList-from_slice c.args.findings.now cc) c.filter.ensures.closure (λ x r q k. search (rules, tests)))
    ∙ as_many c.args.findings.now
