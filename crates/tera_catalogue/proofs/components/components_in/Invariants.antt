use Rattle.std.proofs.Common.{◌≡◌, ◌++◌, drop, map}
use Rattle.std.specs.List.{All}
use Rattle.tera_rules.specs.Judged.{known_view}
use Rattle.tera_catalogue.specs.Listed.{listed, listed_view}
use Rattle.tera_catalogue.specs.Offered.{IsOffered}
use Rattle.tera_catalogue.proofs.components.components_in.Given as goal

abbrev pub invariant-loop-one : goal.invariant-loop-one
invariant-loop-one l = record {
  as_listed : map listed (map known_view l.one-items) ≡ map listed_view l.components.items ++ map listed (map known_view (drop l.one-index l.one-items));
  offered : All IsOffered l.components.items;
}
