use Rattle.std.proofs.Common.{◌≡◌, ℕ, List}
use Rattle.message_frames.specs.Representing.{Represents, weight}
use Rattle.message_frames.specs.Pieces.{Taken}
use Rattle.message_frames.proofs.pieces.take_all.Given as goal

abbrev pub invariant-frames : goal.invariant-frames
invariant-frames l = record {
  limit : l.stream.limit ≡ l.fn.stream.limit;
  taken : (pending : List ℕ) → Represents l.fn.stream pending → Taken l.fn.stream.limit pending l.fn.frames.items l.frames.items l.stream;
}

abbrev pub decreases-frames : goal.decreases-frames
decreases-frames l = weight l.stream
