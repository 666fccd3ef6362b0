use Rattle.std.proofs.Common.{◌∙◌, ap, sym}
use Rattle.tera_editor.specs.Settings.{ByRules, reported_view}
use Rattle.tera_editor.proofs.RuleLemmas.{same_rules}
use Rattle.tera_editor.proofs.settings.Reported.is_by.Goals as goal

pub returns-in-By : goal.returns-in-By
returns-in-By c = λ is.
    ap ByRules (same_rules c.args.rules.now c.in-By.own.now (sym c.eq.ensures ∙ is)) ∙ sym (ap reported_view c.in-By.is)
