use Rattle.std.proofs.Common.{◌≡◌, ◌++◌, map}
use Rattle.std.specs.Iterator.Adapters.{zip_first, zip_second}
use Rattle.std.specs.List.{zip}
use Rattle.std.specs.Slice.Iter.{iter_rest}
use Rattle.tera_base.specs.ValueView.{pairs_view}
use Rattle.tera_rules.specs.Passed.{passed_view, by_pairs}
use Rattle.tera_rules.proofs.passed.push_pairs.Given as goal

abbrev pub invariant-loop-key : goal.invariant-loop-key
invariant-loop-key l =
    map passed_view l.initial.passed.items ++ by_pairs l.span (pairs_view l.pairs)
    ≡ map passed_view l.passed.items ++ by_pairs l.span (pairs_view (zip (iter_rest (zip_first l.key-iterator)) (iter_rest (zip_second l.key-iterator))))
