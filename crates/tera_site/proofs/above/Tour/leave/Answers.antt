use Rattle.std.proofs.Common.{reverse}
use Rattle.tera_site.specs.Views.{page_view}
use Rattle.tera_site.proofs.TourLemmas.{left, left_nothing, no_page, page_found}
use Rattle.tera_site.proofs.above.Tour.leave.Goals as goal

pub returns-in-None : goal.returns-in-None
returns-in-None c = λ s same tour.
    let w = c.args.self.now in
    left_nothing s c.args.number (reverse w.steps.items) w.counts w.inherited.items
    (no_page s c.args.pages.now c.args.number same c.in-None.ensures.lookup.3) tour

pub returns-in_ok-count_no_longer-in-Some : goal.returns-in_ok-count_no_longer-in-Some
returns-in_ok-count_no_longer-in-Some c = λ s same tour.
    let w = c.args.self.now in
    let page = c.in-Some.page.now in
    left s c.args.number (reverse w.steps.items) (page_view page) w.counts c.count_no_longer.new.counts w.inherited.items
    (page_found s c.args.pages.now c.args.number page same c.in-Some.ensures.lookup.3.0 c.in-Some.ensures.lookup.1)
    c.in_ok-count_no_longer-in-Some.ensures tour
