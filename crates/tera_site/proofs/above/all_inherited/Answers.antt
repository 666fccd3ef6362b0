use Rattle.std.proofs.Common.{◌≡◌, ◌∙◌, ◌-◌, [], append-nil, ap, map, reverse, subst, take}
use Rattle.link_groups.specs.Groups.{AreReversed}
use Rattle.tera_site.specs.Sites.{SiteVal, parents}
use Rattle.tera_site.specs.Tours.{IsTourOf}
use Rattle.tera_site.proofs.TourLemmas.{all_known, last_next}
use Rattle.tera_site.proofs.above.all_inherited.Goals as goal

pub loop-step-init : goal.loop-step-init
loop-step-init c = λ s same links. c.in_ok-tour.ensures s same

pub loop-step-preserved : goal.loop-step-preserved
loop-step-preserved c = λ s same links.
    let t = c.loop-step.tour in
    let rest = c.pop.new.self.items in
    c.in_ok-take-in-Some.ensures s same (subst (λ xs. AreReversed xs (map (λ v. v.items) c.in_ok-below.below.items)) links c.in_ok-below.ensures)
    (subst (λ xs. IsTourOf s xs t.counts t.inherited.items) (ap reverse c.in-Some.ensures.items ∙ last_next rest c.in-Some.step)
    (c.loop-step.invariant s same links))

pub returns-in-None : goal.returns-in-None
returns-in-None c = λ s same links number p at.
    let t = c.loop-step.tour in
    let left : c.pop.new.self.items ≡ [] = c.in-None.ensures.rest ∙ ap (λ n. take (n - 1) t.steps.items) c.in-None.ensures.cases.0 in
    let empty : t.steps.items ≡ [] = c.in-None.ensures.items ∙ append-nil c.pop.new.self.items ∙ left in
    all_known s t.counts t.inherited.items
    (subst (λ xs. IsTourOf s (reverse xs) t.counts t.inherited.items) empty (c.loop-step.invariant s same links)) number p at
