use Rattle.tera_check.specs.Named.{known_in}
use Rattle.tera_workspace.specs.Kept.{templates_of}
use Rattle.tera_workspace.proofs.JudgementLemmas.{template_there, found_by_all}
use Rattle.tera_workspace.proofs.judgements.judge.Goals as goal

pub returns : goal.returns
returns c =
    let js = c.args.all.now.items in
    let number = c.args.number in
    let j = c.index.result.now in
    let (faults, are, found) = c.in_ok-findings.ensures.found in
    record {
      template = template_there js number j c.requires c.index.ensures;
      known = c.in_ok-catalogue.ensures;
      found = found_by_all (known_in c.in_ok-catalogue.catalogue) c.are_open-is_open.result (templates_of js) number j.template c.in_ok-findings.findings.items
          c.in_ok-catalogue.ensures c.are_open-is_open.ensures c.in_ok-findings.ensures.ordered faults are found;
    }
