use Rattle.std.proofs.Common.{◌≡◌, ◌∙◌, ◌<◌, ◌++◌, ℕ, List, Option, length, get_or, option_map, ap, subst, arith}
use Rattle.tera_findings.specs.Findings.{finding_view}
use Rattle.terminal_text.specs.Files.{source_of}
use Rattle.tera_jobs.specs.Forms.{finding_text}
use Rattle.tera_jobs.specs.Helps.{help_in}
use Rattle.tera_jobs.proofs.Lists.{each_more}
use Rattle.tera_jobs.proofs.Same.{same_answers}
use Rattle.tera_jobs.proofs.forms.push_found.Goals as goal

pub loop-at-preserved : goal.loop-at-preserved
loop-at-preserved c =
    let held = c.loop-at.invariant in
    let one = c.finding-item.result in
    let all = c.args.found.now.findings.items in
    let at = c.loop-at.at in
    let known = source_of c.args.sources.now in
    let text = finding_text c.args.form c.args.style known c.args.found.now.file.now in
    let help = help_in c.args.helps.now c.args.number in
    let within : at < length all = omega (arith, ap length c.deref-finding-items.ensures.value) in
    let is : one ≡ get_or all at one = c.finding-item.is ∙ ap (λ xs. get_or xs at one) c.deref-finding-items.ensures.value in
    let same = same_answers (source_of c.loop-at.sources) known held.same in
    let step : c.push_finding.new.to.items ≡ c.loop-at.to.items ++ text (help at) (finding_view one)
    = subst (λ k. c.push_finding.new.to.items ≡ c.loop-at.to.items ++ finding_text c.args.form c.args.style k c.args.found.now.file.now (option_map (λ t. t.now) c.help_at-help.result) (finding_view one)) same
    c.in_ok-push_finding.ensures.text
    ∙ ap (λ (h : Option (List ℕ)). c.loop-at.to.items ++ text h (finding_view one)) c.help_at-help.ensures in
    record {
      text = each_more _ _ _ all at one within is finding_view text help held.text step;
      same = λ other. c.push_finding.ensures.same other ∙ held.same other;
    }
