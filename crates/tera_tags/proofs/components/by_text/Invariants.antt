use Rattle.std.specs.Prelude.{◌≡◌, [], map}
use Rattle.std.specs.Iterator.Adapters.{zip_first, zip_second}
use Rattle.std.specs.List.{zip}
use Rattle.std.specs.Slice.Iter.{iter_rest}
use Rattle.tera_base.specs.ValueView.{pairs_view}
use Rattle.tera_grammar.specs.statements.Components.{put_pairs}
use Rattle.tera_tree.specs.Definitions.{named_value}
use Rattle.tera_tags.proofs.components.by_text.Given as goal

abbrev pub invariant-pairs : goal.invariant-pairs
invariant-pairs l =
    put_pairs (pairs_view (zip (iter_rest (zip_first l.key-iterator)) (iter_rest (zip_second l.key-iterator)))) (map named_value l.values.entries) ≡ put_pairs (pairs_view l.pairs) []
