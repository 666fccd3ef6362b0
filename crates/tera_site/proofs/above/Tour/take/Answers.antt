use Rattle.std.proofs.Common.{◌∷◌, reverse, subst}
use Rattle.tera_site.specs.Tours.{IsTourOf}
use Rattle.tera_site.proofs.above.Tour.take.Goals as goal

pub returns-in-Enter : goal.returns-in-Enter
returns-in-Enter c = λ s same back tour.
    let w = c.args.self.now in
    c.enter.ensures s same back (subst (λ x. IsTourOf s (x ∷ reverse w.steps.items) w.counts w.inherited.items) c.in-Enter.is tour)

pub returns-in-Leave : goal.returns-in-Leave
returns-in-Leave c = λ s same back tour.
    let w = c.args.self.now in
    c.leave.ensures s same (subst (λ x. IsTourOf s (x ∷ reverse w.steps.items) w.counts w.inherited.items) c.in-Leave.is tour)
