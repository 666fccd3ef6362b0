use Rattle.std.proofs.Common.{ℕ, List, subst, ◌∙◌}
use Rattle.message_frames.specs.Shown.{Wait, shown}
use Rattle.message_frames.specs.Representing.{Represents, IsNext}
use Rattle.message_frames.proofs.Taking.{nearer, taken_more, taken_all}
use Rattle.message_frames.proofs.pieces.take_all.Goals as goal

pub returns-in-Wait-clause-taken : goal.returns-in-Wait-clause-taken
returns-in-Wait-clause-taken c =
    let limit = c.args.stream.now.limit in
    let new = c.next.new.self in
    let next : (rest : List ℕ) → Represents c.frames.stream rest → IsNext limit rest Wait new =
    λ rest represents. subst (λ n. IsNext n rest Wait new) c.frames.invariant.limit (subst (λ f. IsNext c.frames.stream.limit rest (shown f) new) c.in-Wait.is (c.in_ok-frame.ensures.next rest represents)) in
    λ pending h. taken_all limit pending c.args.frames.now.items c.frames.frames.items c.frames.stream new (c.frames.invariant.taken pending h) next

pub frames-preserved : goal.frames-preserved
frames-preserved c =
    let limit = c.args.stream.now.limit in
    let new = c.next.new.self in
    let frame = c.in_ok-frame.frame in
    let next : (rest : List ℕ) → Represents c.frames.stream rest → IsNext limit rest (shown frame) new =
    λ rest represents. subst (λ n. IsNext n rest (shown frame) new) c.frames.invariant.limit (c.in_ok-frame.ensures.next rest represents) in
    record {
      limit = c.in_ok-frame.ensures.limit ∙ c.frames.invariant.limit;
      taken = λ pending h.
          rw c.in_ok-push-in_default.ensures.items
          (taken_more limit pending c.args.frames.now.items c.frames.frames.items c.frames.stream new frame c.in_default.not-Wait (c.frames.invariant.taken pending h) next);
    }

pub frames-smaller : goal.frames-smaller
frames-smaller c =
    nearer c.in_ok-frame.frame c.frames.stream c.next.new.self c.in_default.not-Wait c.in_ok-frame.ensures.nearer
