use Rattle.std.proofs.Common.{[], ◌≡◌, ◌⊎◌, inl, inr, length, ⊎_elim, string_bytes, sym, ◌∙◌, append-nil, arith}
use Rattle.std.specs.Iterator.Adapters.{zip_first, zip_second}
use Rattle.std.specs.List.{zip}
use Rattle.std.specs.Slice.Iter.{iter_rest}
use Rattle.tera_source.proofs.FromFirst.{one_pair, value_below, no_pairs}
use Rattle.tera_source.proofs.constants.+constants.Goals as goal

pub push_pairs-loop-key-init : goal.push_pairs-loop-key-init
push_pairs-loop-key-init t c =
    let it = c.into_iter-key-iterator.result in
    let all : zip (iter_rest (zip_first it)) (iter_rest (zip_second it)) ≡ c.args.map.now = rw c.into_iter-key-iterator.ensures.into_iter_gives c.iter-key-items.ensures.pairs in
    (rw all, rw all (omega arith))

pub push_pairs-loop-key-preserved : goal.push_pairs-loop-key-preserved
push_pairs-loop-key-preserved t c =
    let next = c.in-Some.ensures.steps in
    let below = value_below _ _ _ _ _ _ _ c.loop-key.invariant.1 next.0 next.1 in
    (rw (c.in_ok-push_pair.ensures, c.in_ok-push_comma.ensures) (one_pair _ _ c.loop-key.later _ _ _ _ _ _ c.loop-key.invariant.0 next.0 next.1), below.1)

pub push_pairs-push_pair-requires : goal.push_pairs-push_pair-requires
push_pairs-push_pair-requires t c =
    let next = c.in-Some.ensures.steps in
    let below = value_below _ _ _ _ _ _ _ c.loop-key.invariant.1 next.0 next.1 in
    (omega (arith, below.0, c.decreases), tt)

pub push_pairs-returns : goal.push_pairs-returns
push_pairs-returns t c =
    let it = c.loop-key.key-iterator in
    let ended : (length (iter_rest (zip_first it)) ≡ 0) ⊎ (length (iter_rest (zip_second it)) ≡ 0) = ⊎_elim (λ a. inl a.1.0) (λ b. inr b.1.0) c.in-None.ensures.steps in
    let none : zip (iter_rest (zip_first it)) (iter_rest (zip_second it)) ≡ [] = no_pairs (iter_rest (zip_first it)) (iter_rest (zip_second it)) ended in
    sym (rw none at c.loop-key.invariant.0 ∙ append-nil (string_bytes c.loop-key.out))
