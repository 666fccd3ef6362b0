use Rattle.std.proofs.Common.{◌≡◌, [], get_or, map, sym, subst, arith, rules}
use Rattle.tera_templates.specs.FaultFindings.{AreOfEach, IsWordOf}
use Rattle.tera_findings.specs.Findings.{finding_view}
use Rattle.tera_templates.specs.declared.fault_findings.Met.{Met}
use Rattle.tera_templates.proofs.FaultFindingsLemmas.{all_met, each_more}
use Rattle.tera_templates.proofs.WalkLemmas.{at_first}
use Rattle.tera_templates.proofs.fault_findings.findings_in.Goals as goal

pub loop-met-init : goal.loop-met-init
loop-met-init c = λ words. ((at_first c.args.source.now c.first-walk.result c.first-walk.ensures).0, subst (λ fs. AreOfEach c.args.file.now c.args.source.now [] (map finding_view fs)) (sym c.new-findings.ensures.items) tt)

pub loop-met-preserved : goal.loop-met-preserved
loop-met-preserved c = λ words.
    let item : get_or c.args.all.now c.loop-met.met-index c.met-item.result ≡ c.met-item.result = search rules in
    let word = subst (λ (m : Met). IsWordOf c.args.source.now m.cause) item (words c.loop-met.met-index c.met-item.result c.loop-met-test.true) in
    let (walked, each) = c.loop-met.invariant words in
    let (there, at) = c.to-walk.ensures walked (omega (arith, word.within)) in (
      there,
      each_more c.args.file.now c.args.source.now c.args.all.now c.loop-met.met-index c.met-item.result c.loop-met.findings.items c.push.new.self.items c.in_ok-finding.finding
          c.loop-met-test.true item each (c.in_ok-finding.ensures there at word) c.in_ok-push.ensures.items,
    )

pub returns : goal.returns
returns c = λ words. all_met c.args.file.now c.args.source.now c.args.all.now c.loop-met.met-index _ c.loop-met-test.false (c.loop-met.invariant words).1
