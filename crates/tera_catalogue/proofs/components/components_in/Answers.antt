use Rattle.std.proofs.Common.{rules, [], ◌∷◌, ◌++◌, subst, sym}
use Rattle.std.proofs.lemmas.List.Elements.{All-push}
use Rattle.std.specs.List.{All}
use Rattle.tera_rules.specs.Judged.{known_view}
use Rattle.tera_catalogue.specs.Listed.{listed, listed_view}
use Rattle.tera_catalogue.specs.Offered.{IsOffered}
use Rattle.tera_catalogue.proofs.ListedLemmas.{reported_next}
use Rattle.tera_catalogue.proofs.components.components_in.Goals as goal

pub loop-one-preserved : goal.loop-one-preserved
loop-one-preserved c =
    let before = c.loop-one.components.items in
    let one = c.in_ok-component_of.field-0 in
    let offered : All IsOffered (before ++ one ∷ []) = All-push IsOffered before one c.loop-one.invariant.offered c.in_ok-component_of.ensures.offered in
    record {
      as_listed = reported_next listed known_view listed_view c.deref-one-items.result.now c.loop-one.one-index c.one-item.result before one c.push.new.self.items (search rules) c.one-item.is c.loop-one.invariant.as_listed c.in_ok-component_of.ensures.as_listed c.in_ok-push.ensures.items;
      offered = subst (All IsOffered) (sym c.in_ok-push.ensures.items) offered;
    }
