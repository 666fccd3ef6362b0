use Rattle.std.proofs.Common.{map, string_bytes, ◌≡◌, List, subst, sym}
use Rattle.tera_workspace.specs.Kept.{reported_named}
use Rattle.tera_workspace.specs.Workspaces.{AreOthers}
use Rattle.tera_workspace.specs.declared.judged.Judged.{Judged}
use Rattle.tera_workspace.proofs.NewsLemmas.{others_are}
use Rattle.tera_workspace.proofs.SettleLemmas.{still_ordered}
use Rattle.tera_workspace.proofs.WorkspaceLemmas.{read_settled, read_still, reported_fresh, same_sources, same_templates, still_kept}
use Rattle.tera_workspace.proofs.workspace.Workspace.settle_read.Goals as goal

pub invariant_of-self : goal.invariant_of-self
invariant_of-self c = record {
  ordered = still_ordered c.args.self.now.judged.items c.report.new.all.items c.in_ok-news.news.items c.report.ensures c.args.self.now.ordered;
}

pub returns-clause-templates : goal.returns-clause-templates
returns-clause-templates c = same_templates c.args.self.now.judged.items c.report.new.all.items c.in_ok-news.news.items c.report.ensures

pub returns-clause-texts : goal.returns-clause-texts
returns-clause-texts c = same_sources c.args.self.now.judged.items c.report.new.all.items c.in_ok-news.news.items c.report.ensures

pub returns-clause-fresh : goal.returns-clause-fresh
returns-clause-fresh c = λ kept.
    let w = c.args.self.now in
    reported_fresh w.encoding w.judged.items c.report.new.all.items c.in_ok-news.news.items c.report.ensures kept.whole kept.ordered kept.current (c.in_ok-news.ensures.news kept.whole)

pub returns-clause-settled : goal.returns-clause-settled
returns-clause-settled c = λ kept read. read_settled c.args.self.now c.report.new.all c.in_ok-news.news.items kept read c.in_ok-news.ensures.news c.report.ensures _

pub returns-clause-read : goal.returns-clause-read
returns-clause-read c = λ kept read. read_still c.args.self.now c.report.new.all c.in_ok-news.news.items kept read c.in_ok-news.ensures.news c.report.ensures _

pub returns-clause-kept : goal.returns-clause-kept
returns-clause-kept c = λ kept. still_kept c.args.self.now c.report.new.all c.in_ok-news.news.items kept c.in_ok-news.ensures.news c.report.ensures _

pub returns-clause-names : goal.returns-clause-names
returns-clause-names c = λ kept.
    let js = c.args.self.now.judged.items in
    let news = c.in_ok-news.news.items in
    subst (λ (xs : List Judged). AreOthers (map string_bytes c.in_ok-names.names.items) (λ n. reported_named n js) (λ n. reported_named n xs)) (sym c.report.ensures)
    (others_are js news (map string_bytes c.in_ok-names.names.items) c.in_ok-news.ensures.as_many kept.ordered c.in_ok-names.ensures)
