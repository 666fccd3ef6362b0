use Rattle.std.proofs.Common.{◌≡◌, ◌∙◌, ◌++◌, ap, map, reverse, sym}
use Rattle.link_groups.specs.Groups.{links_at}
use Rattle.tera_site.specs.Views.{page_view}
use Rattle.tera_site.specs.declared.above.Step.TheVariants.{Enter}
use Rattle.tera_site.proofs.TourLemmas.{None_Some, entered, no_page, no_way, page_found, passed_by, pushed, same_Some}
use Rattle.tera_site.proofs.above.Tour.enter.Goals as goal

pub returns-in_default : goal.returns-in_default
returns-in_default c = λ s same back tour.
    let w = c.args.self.now in
    passed_by s c.args.number (reverse w.steps.items) w.counts w.inherited.items
    (λ p at whole. None_Some p (sym (no_page s c.args.pages.now c.args.number same c.in_default.ensures.lookup.3) ∙ at)) tour

pub returns-then-not-page : goal.returns-then-not-page
returns-then-not-page c = λ s same back tour.
    let w = c.args.self.now in
    let page = c.in-Some.page.now in
    let found = page_found s c.args.pages.now c.args.number page same c.in-Some.ensures.lookup.3.0 c.in-Some.ensures.lookup.1 in
    passed_by s c.args.number (reverse w.steps.items) w.counts w.inherited.items
    (λ q at whole. no_way (sym c.if-not-page.true ∙ (ap (λ r. r.is_whole) (same_Some (page_view page) q (sym found ∙ at)) ∙ whole))) tour

pub returns : goal.returns
returns c = λ s same back tour.
    let w = c.args.self.now in
    let page = c.in-Some.page.now in
    let below = map (λ l. l.items) c.args.below.now.items in
    let children = links_at below c.args.number in
    let found = page_found s c.args.pages.now c.args.number page same c.in-Some.ensures.lookup.3.0 c.in-Some.ensures.lookup.1 in
    entered s below c.args.number (reverse w.steps.items) (reverse c.push_below.new.steps.items) (page_view page)
    w.counts c.count.new.counts w.inherited.items c.put_known.new.known.items c.in_ok-own.own
    found c.if-not-page.false back c.in_ok-own.ensures c.put_known.ensures c.in_ok-count.ensures
    (ap reverse (c.in_ok-push_below.ensures ∙ ap (λ xs. xs ++ map Enter children) c.in_ok-push.ensures.items) ∙ pushed w.steps.items c.args.number children)
    tour
