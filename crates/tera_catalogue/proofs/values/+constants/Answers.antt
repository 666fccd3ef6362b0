use Rattle.std.proofs.Common.{◌≡◌, ◌⊎◌, inl, inr, length, ⊎_elim}
use Rattle.std.specs.Iterator.Adapters.{zip_first, zip_second}
use Rattle.std.specs.List.{zip}
use Rattle.std.specs.Slice.Iter.{iter_rest}
use Rattle.tera_catalogue.proofs.ConstantLemmas.{member_more, members_done}
use Rattle.tera_catalogue.proofs.values.+constants.Goals as goal

pub write_members-loop-name-init : goal.write_members-loop-name-init
write_members-loop-name-init t c =
    let it = c.into_iter-name-iterator.result in
    let all : zip (iter_rest (zip_first it)) (iter_rest (zip_second it)) ≡ c.args.map.now = rw c.into_iter-name-iterator.ensures.into_iter_gives c.iter-name-items.ensures.pairs in
    rw all

pub write_members-loop-name-preserved : goal.write_members-loop-name-preserved
write_members-loop-name-preserved t c =
    let next = c.in-Some.ensures.steps in
    member_more _ _ _ _ _ _ _ _ _ _ c.loop-name.invariant next.0 next.1 c.in_ok-write_name.ensures c.in_ok-write_value.ensures

pub write_members-returns : goal.write_members-returns
write_members-returns t c =
    let it = c.loop-name.name-iterator in
    let ended : (length (iter_rest (zip_first it)) ≡ 0) ⊎ (length (iter_rest (zip_second it)) ≡ 0) = ⊎_elim (λ a. inl a.1.0) (λ b. inr b.1.0) c.in-None.ensures.steps in
    members_done _ _ _ _ c.loop-name.invariant ended
