use Rattle.std.proofs.Common.{ℕ, ◌<◌, get_or}
use Rattle.tera_mend.specs.Places.{IsInPlace}
use Rattle.tera_mend.proofs.edits.is_in_place.Given as goal

-- the bytes up to here are in their places
abbrev pub invariant-loop-i : goal.invariant-loop-i
invariant-loop-i l = (k : ℕ) → k < l.i → IsInPlace (get_or l.old k 0) (get_or l.new k 0)
