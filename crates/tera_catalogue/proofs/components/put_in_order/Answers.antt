use Rattle.std.proofs.Common.{rules, map}
use Rattle.std.proofs.lemmas.List.Sorted.{answers_always}
use Rattle.std.specs.List.Sorted.{IsSortedBy}
use Rattle.std.specs.Ordering.{is_lt}
use Rattle.tera_rules.specs.Judged.{known_view}
use Rattle.tera_rules.specs.declared.known.Known.{Known}
use Rattle.tera_catalogue.specs.Listed.{Rank, listed, rank_of, rank_cmp}
use Rattle.tera_catalogue.proofs.ListedLemmas.{ranked, sorted_map}
use Rattle.tera_catalogue.proofs.components.put_in_order.Goals as goal

abbrev rank : Known → Rank
rank k = rank_of (listed (known_view k))

pub returns-clause-ordered : goal.returns-clause-ordered
returns-clause-ordered c =
    let known = c.sort_by.new.self.items in
    let by : IsSortedBy (λ x y. is_lt (rank_cmp (rank x) (rank y))) known =
    c.in_ok-sort_by.ensures.sorted (λ x y. is_lt (rank_cmp (rank x) (rank y))) (ranked rank) (answers_always _ _ _ (λ f a r g h. search rules)) in
    sorted_map listed (λ x y. is_lt (rank_cmp (rank_of x) (rank_of y))) (map known_view known)
    (sorted_map known_view (λ x y. is_lt (rank_cmp (rank_of (listed x)) (rank_of (listed y)))) known by)
