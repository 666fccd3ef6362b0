use Rattle.tera_rules.specs.Judged.{known_view}
use Rattle.tera_rules.proofs.JudgedLemmas.{judged_known}
use Rattle.tera_rules.proofs.judged.push_arguments.Goals as goal

pub returns : goal.returns
returns c =
    judged_known (known_view c.args.known.now) c.args.span.now _ _ _ _ _ _ c.in_ok-passed.ensures c.in_ok-names.ensures.findings c.in_ok-names.ensures.names c.in_ok-push_missing.ensures
