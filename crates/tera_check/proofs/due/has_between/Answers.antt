use Rattle.std.proofs.Common.{◌∙◌, ap}
use Rattle.std.specs.BTreeSet.{keys}
use Rattle.std.specs.List.{slice_get}
use Rattle.std.specs.Option.{is_some}
use Rattle.tera_check.proofs.DueLemmas.{any_kept, in_range, none_between, some_taken}
use Rattle.tera_check.proofs.due.has_between.Goals as goal

pub returns-then-end-start : goal.returns-then-end-start
returns-then-end-start c = none_between c.args.start c.args.end (keys c.args.places.now) c.if-end-start.true

pub returns : goal.returns
returns c =
    c.is_some.ensures
    ∙ some_taken c.range.result c.next.result c.next.new.self c.next.ensures.steps
    ∙ ap (λ ks. is_some (slice_get ks 0)) (c.range.ensures.between tt) ∙ any_kept _ _ (in_range c.args.start c.args.end) (keys c.args.places.now)
