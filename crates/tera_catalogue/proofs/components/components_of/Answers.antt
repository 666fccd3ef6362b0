use Rattle.std.proofs.Common.{sym}
use Rattle.std.proofs.lemmas.List.Sorted.{IsPermutation-map}
use Rattle.tera_rules.specs.Judged.{known_view}
use Rattle.tera_catalogue.specs.Listed.{listed}
use Rattle.tera_catalogue.proofs.components.components_of.Goals as goal

pub returns-clause-all : goal.returns-clause-all
returns-clause-all c =
    let moved = IsPermutation-map listed _ _ (IsPermutation-map known_view _ _ c.put_in_order.ensures.same) in
    rw (sym c.in_ok-known.ensures, c.in_ok-components.ensures.as_listed) moved

pub returns-clause-ordered : goal.returns-clause-ordered
returns-clause-ordered c = rw c.in_ok-components.ensures.as_listed c.in_ok-put_in_order.ensures.ordered
