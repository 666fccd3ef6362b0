use Rattle.std.proofs.Common.{◌≡◌, IfOk, map, subst}
use Rattle.terminal_text.specs.Files.{source_of}
use Rattle.tera_jobs.specs.Sources.{nothing, unreadable_view, with_sources}
use Rattle.tera_check.specs.Levels.{level_of}
use Rattle.tera_rules.specs.Registered.{registered_if_any}
use Rattle.tera_jobs.specs.Report.{IsReported}
use Rattle.tera_jobs.proofs.Same.{same_answers}
use Rattle.tera_jobs.proofs.check.write_all_findings.Goals as goal

pub returns-clause-report : goal.returns-clause-report
returns-clause-report g c =
    let all = c.args.all.now in
    let job = c.args.job.now in
    let same : source_of c.in_ok-sources.sources ≡ with_sources nothing all.sources.items =
    same_answers (source_of c.in_ok-sources.sources) (with_sources nothing all.sources.items) c.in_ok-sources.ensures in
    subst (λ known. IfOk c.write_findings.result (IsReported job.form c.args.style known (map unreadable_view all.unread.items) all.templates.items all.sources.items all.names (registered_if_any c.args.registered) all.checked
    (level_of job.rules) (g.W.Write.contents c.args.writer.now) (g.W.Write.contents c.write_findings.new.writer))) same (rw c.as_slice.ensures.value at c.write_findings.ensures.report)
