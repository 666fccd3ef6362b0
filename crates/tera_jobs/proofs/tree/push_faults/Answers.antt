use Rattle.std.proofs.Common.{◌≡◌, ◌∙◌, ◌++◌, string_bytes, subst}
use Rattle.tera_findings.specs.Findings.{finding_view}
use Rattle.tera_report.specs.FullTexts.{full_text}
use Rattle.terminal_text.specs.Files.{source_of}
use Rattle.tera_jobs.proofs.Lists.{reported_more}
use Rattle.tera_jobs.proofs.Same.{same_answers}
use Rattle.tera_jobs.proofs.tree.push_faults.Goals as goal

pub loop-fault-preserved : goal.loop-fault-preserved
loop-fault-preserved c =
    let held = c.loop-fault.invariant in
    let one = c.fault-item.result in
    let all = c.deref-fault-items.result.now in
    let text = full_text c.args.style (source_of c.args.sources.now) c.args.file.now in
    let same = same_answers (source_of c.loop-fault.sources) (source_of c.args.sources.now) held.same in
    let step : string_bytes c.push_full.new.to ≡ string_bytes c.loop-fault.to ++ text (finding_view one)
    = subst (λ k. string_bytes c.push_full.new.to ≡ string_bytes c.loop-fault.to ++ full_text c.args.style k c.args.file.now (finding_view one)) same
    c.in_ok-push_full.ensures.text in
    record {
      text = reported_more finding_view text _ _ _ all c.loop-fault.fault-index one c.loop-fault-test.true c.fault-item.is held.text step;
      same = λ other. c.push_full.ensures.same other ∙ held.same other;
    }
