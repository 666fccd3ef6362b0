use Rattle.std.proofs.Common.{◌≡◌, true, rules}
use Rattle.tera_check.specs.Named.{known_in}
use Rattle.tera_workspace.specs.Kept.{templates_of}
use Rattle.tera_workspace.proofs.FoundLemmas.{found_here}
use Rattle.tera_workspace.proofs.news.news_of_one.Goals as goal

pub returns : goal.returns
returns c = λ whole.
    let stale : c.args.judged.now.stale ≡ true = search rules in
    let findings = c.in_ok-findings.findings.items in
    let (faults, are, found) = c.in_ok-findings.ensures.found in (
      findings,
      found_here (known_in c.args.catalogue.now) c.args.is_open (templates_of c.args.all.now.items) c.args.number c.args.judged.now.template c.args.judged.now.names findings
          (c.requires.known stale) c.requires.is_open whole.names c.in_ok-findings.ensures.ordered faults are found,
      c.in_ok-diagnostics.ensures,
    )
