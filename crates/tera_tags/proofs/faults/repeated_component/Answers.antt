use Rattle.tera_tags.proofs.KnowingLemmas.{meets_refused}
use Rattle.tera_tags.proofs.faults.repeated_component.Goals as goal

pub returns : goal.returns
returns c = λ known old meets.
    meets_refused known c.args.name.now c.args.first.now old c.args.cursor.now c.reported-error.result c.first_defined.result meets c.reported-error.ensures.place
    c.first_defined.ensures.adds c.first_defined.ensures.reports c.reported-error.ensures.refusal
