use Rattle.std.proofs.Common.{◌∙◌, [], ap}
use Rattle.tera_findings.specs.Findings.{FindingOf}
use Rattle.tera_check.specs.Silenced.{unused_ignore_text}
use Rattle.tera_findings.specs.declared.finding.Kind.TheVariants as kinds
use Rattle.tera_check.proofs.silenced.unused.Goals as goal

pub returns : goal.returns
returns c =
    c.new.ensures
    ∙ ap (λ text. FindingOf kinds.UnusedIgnore c.args.ignore.now.span text []) (c.in_ok-message.ensures ∙ ap unused_ignore_text c.as_str.ensures.value)
