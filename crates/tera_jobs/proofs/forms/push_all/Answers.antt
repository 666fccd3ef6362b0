use Rattle.std.proofs.Common.{◌≡◌, ◌∙◌, ◌++◌, map, subst}
use Rattle.tera_findings.specs.Findings.{finding_view}
use Rattle.tera_check.specs.Found.{found_view}
use Rattle.terminal_text.specs.Files.{source_of}
use Rattle.tera_jobs.specs.Forms.{each_from, finding_text}
use Rattle.tera_jobs.specs.Helps.{help_in}
use Rattle.tera_jobs.proofs.Lists.{all_more}
use Rattle.tera_jobs.proofs.Same.{same_answers}
use Rattle.tera_jobs.proofs.forms.push_all.Goals as goal

pub loop-number-preserved : goal.loop-number-preserved
loop-number-preserved c =
    let held = c.loop-number.invariant in
    let one = c.index-all-number.result in
    let number = c.loop-number.number in
    let known = source_of c.args.sources.now in
    let text = finding_text c.args.form c.args.style known in
    let help = help_in c.args.helps.now in
    let same = same_answers (source_of c.loop-number.sources) known held.same in
    let step : c.push_found.new.to.items ≡ c.loop-number.to.items ++ each_from (text one.file.now) (help number) 0 (map finding_view one.findings.items)
    = subst (λ k. c.push_found.new.to.items ≡ c.loop-number.to.items ++ each_from (finding_text c.args.form c.args.style k one.file.now) (help number) 0 (map finding_view one.findings.items)) same
    c.in_ok-push_found.ensures.text in
    record {
      text = all_more _ _ _ c.args.all.now number one c.loop-number-test.true c.index-all-number.is found_view text help held.text step;
      same = λ other. c.push_found.ensures.same other ∙ held.same other;
    }
