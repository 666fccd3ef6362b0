use Rattle.tera_workspace.proofs.NewsLemmas.{AreReportedSoFar}
use Rattle.tera_workspace.proofs.news.report.Given as goal

abbrev pub invariant-loop-number : goal.invariant-loop-number
invariant-loop-number l =
    AreReportedSoFar l.number l.initial.all.items l.initial.news.items l.all.items l.news.items
