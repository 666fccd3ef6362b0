use Rattle.std.proofs.Common.{◌∙◌, ap}
use Rattle.std.specs.BTreeSet.{keys}
use Rattle.std.specs.List.{slice_get}
use Rattle.tera_check.proofs.DueLemmas.{first_kept, first_taken, from_start}
use Rattle.tera_check.proofs.due.first_from.Goals as goal

pub returns : goal.returns
returns c =
    c.copied.ensures
    ∙ first_taken c.range.result c.next.result c.next.new.self c.next.ensures.steps
    ∙ ap (λ ks. slice_get ks 0) (c.range.ensures.between tt) ∙ first_kept _ _ (from_start c.args.start) (keys c.args.places.now)
