use Rattle.std.proofs.Common.{◌≡◌, ◌⊎◌, inl, inr, length, map, sym, ⊎_elim, ◌∙◌}
use Rattle.std.specs.Iterator.Adapters.{zip_first, zip_second}
use Rattle.std.specs.Slice.Iter.{iter_rest}
use Rattle.tera_tree.specs.Definitions.{named_value}
use Rattle.tera_tags.proofs.PairsLemmas.{all_put}
use Rattle.tera_tags.proofs.components.by_text.Goals as goal

pub returns : goal.returns
returns c =
    let it = c.pairs.key-iterator in
    let ended : (length (iter_rest (zip_first it)) ≡ 0) ⊎ (length (iter_rest (zip_second it)) ≡ 0) = ⊎_elim (λ a. inl a.1.0) (λ b. inr b.1.0) c.in-None.ensures.steps in
    sym (all_put (iter_rest (zip_first it)) (iter_rest (zip_second it)) (map named_value c.pairs.values.entries) ended) ∙ c.pairs.invariant
