use Rattle.std.proofs.Common.{◌≡◌, ◌⊎◌, inl, inr, length, ⊎_elim}
use Rattle.std.specs.Iterator.Adapters.{zip_first, zip_second}
use Rattle.std.specs.List.{zip}
use Rattle.std.specs.Slice.Iter.{iter_rest}
use Rattle.tera_rules.proofs.PassedLemmas.{pair_more, pairs_done}
use Rattle.tera_rules.proofs.passed.push_pairs.Goals as goal

pub loop-key-init : goal.loop-key-init
loop-key-init c =
    let it = c.into_iter-key-iterator.result in
    let all : zip (iter_rest (zip_first it)) (iter_rest (zip_second it)) ≡ c.args.pairs.now = rw c.into_iter-key-iterator.ensures.into_iter_gives c.iter-key-items.ensures.pairs in
    rw all

pub loop-key-preserved : goal.loop-key-preserved
loop-key-preserved c =
    let next = c.in-Some.ensures.steps in
    pair_more c.args.span.now _ _ _ _ _ _ _ _ _ c.loop-key.invariant next.0 next.1 c.in_ok-push_value.ensures

pub returns : goal.returns
returns c =
    let it = c.loop-key.key-iterator in
    let ended : (length (iter_rest (zip_first it)) ≡ 0) ⊎ (length (iter_rest (zip_second it)) ≡ 0) = ⊎_elim (λ a. inl a.1.0) (λ b. inr b.1.0) c.in-None.ensures.steps in
    pairs_done c.args.span.now _ _ _ _ c.loop-key.invariant ended
