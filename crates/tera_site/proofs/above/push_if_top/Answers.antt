use Rattle.std.proofs.Common.{◌∙◌, ◌+◌, ap, sym, subst}
use Rattle.std.specs.Option.{option_map}
use Rattle.tera_site.specs.Tours.{AreTopsTo}
use Rattle.tera_site.specs.Views.{page_view}
use Rattle.tera_site.proofs.TopsLemmas.{top_more, top_not}
use Rattle.tera_site.proofs.TourLemmas.{None_Some}
use Rattle.tera_site.proofs.above.push_if_top.Goals as goal

pub returns-in-Some : goal.returns-in-Some
returns-in-Some c = λ ps there tops.
    top_not ps c.args.number c.args.steps.now.items (page_view c.args.page.now) there
    (λ none. None_Some _ (sym none ∙ ap (option_map (λ n. n.now)) c.in-Some.is)) tops

pub returns-in_ok-push-in-None : goal.returns-in_ok-push-in-None
returns-in_ok-push-in-None c = λ ps there tops.
    subst (AreTopsTo ps (c.args.number + 1)) (sym c.in_ok-push-in-None.ensures.items)
    (top_more ps c.args.number c.args.steps.now.items (page_view c.args.page.now) there (ap (option_map (λ n. n.now)) c.in-None.is) tops)
