use Rattle.std.proofs.Common.{◌≡◌, IsTrue, false, length, arith, refl}
use Rattle.tera_mend.proofs.InPlace.{same_length, each, all}
use Rattle.tera_mend.proofs.edits.is_in_place.Goals as goal

pub returns-then-old-new : goal.returns-then-old-new
returns-then-old-new c =
    (λ (h : IsTrue false). cc, λ are. let same : length c.args.old.now ≡ length c.args.new.now = same_length _ _ are in absurd (omega arith))

pub returns-then-not-is_like : goal.returns-then-not-is_like
returns-then-not-is_like c =
    (λ (h : IsTrue false). cc, λ are. c.if-not-is_like.ensures.1 (each _ _ are c.loop-i.i c.loop-i-test.true))

pub returns : goal.returns
returns c =
    (λ h. all _ _ c.if-old-new.false (λ k below. c.loop-i.invariant k (omega arith)), λ are. refl)
