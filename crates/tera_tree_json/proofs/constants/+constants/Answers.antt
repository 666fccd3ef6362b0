use Rattle.std.proofs.Common.{[], ◌∷◌, ◌≡◌, ◌⊎◌, inl, inr, length, ⊎_elim, sym, ◌∙◌, refl, append_assoc, arith}
use Rattle.std.specs.Iterator.Adapters.{zip_first, zip_second}
use Rattle.std.specs.List.{zip}
use Rattle.std.specs.Slice.Iter.{iter_rest}
use Rattle.json.specs.Token.{begin_array}
use Rattle.tera_tree_json.proofs.Pairs.{one_pair, value_below, no_pairs}
use Rattle.json_members.proofs.Putting.{put_last}
use Rattle.tera_tree_json.proofs.constants.+constants.Goals as goal

pub put_pairs-loop-key-init : goal.put_pairs-loop-key-init
put_pairs-loop-key-init t c =
    let it = c.into_iter-key-iterator.result in
    let all : zip (iter_rest (zip_first it)) (iter_rest (zip_second it)) ≡ c.args.map.now = rw c.into_iter-key-iterator.ensures.into_iter_gives c.iter-key-items.ensures.pairs in
    (refl, rw all, rw all (omega arith))

pub put_pairs-loop-key-preserved : goal.put_pairs-loop-key-preserved
put_pairs-loop-key-preserved t c =
    let next = c.in-Some.ensures.steps in
    let held = c.loop-key.invariant in
    let below = value_below _ _ _ _ _ _ _ held.2 next.0 next.1 in
    (c.in_ok-put_pair.ensures.before ∙ held.0, rw c.in_ok-put_pair.ensures.tokens (one_pair _ _ _ _ _ _ _ _ held.1 next.0 next.1), below.1)

pub put_pairs-put_pair-requires : goal.put_pairs-put_pair-requires
put_pairs-put_pair-requires t c =
    let next = c.in-Some.ensures.steps in
    let below = value_below _ _ _ _ _ _ _ c.loop-key.invariant.2 next.0 next.1 in
    (omega (arith, below.0, c.decreases), tt)

pub put_pairs-returns : goal.put_pairs-returns
put_pairs-returns t c =
    let it = c.loop-key.key-iterator in
    let ended : (length (iter_rest (zip_first it)) ≡ 0) ⊎ (length (iter_rest (zip_second it)) ≡ 0) = ⊎_elim (λ a. inl a.1.0) (λ b. inr b.1.0) c.in-None.ensures.steps in
    let none : zip (iter_rest (zip_first it)) (iter_rest (zip_second it)) ≡ [] = no_pairs (iter_rest (zip_first it)) (iter_rest (zip_second it)) ended in
    put_last _ _ _ _ _ _ c.end_array.ensures (c.loop-key.invariant.0 ∙ c.in_ok-begin_array.ensures.room.0)
    (sym (rw none at c.loop-key.invariant.1) ∙ rw c.in_ok-begin_array.ensures.ok (append_assoc _ (begin_array ∷ []) _))
