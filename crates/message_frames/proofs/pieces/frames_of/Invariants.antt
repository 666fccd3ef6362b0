use Rattle.std.proofs.Common.{◌≡◌, [], take}
use Rattle.std.specs.List.{flat_map}
use Rattle.message_frames.specs.Pieces.{AllTaken}
use Rattle.message_frames.proofs.pieces.frames_of.Given as goal

abbrev pub invariant-pieces : goal.invariant-pieces
invariant-pieces l = record {
  limit : l.stream.limit ≡ l.limit;
  taken : AllTaken l.limit (flat_map (λ piece. piece.items) (take l.piece-index l.pieces)) [] l.frames.items l.stream;
}
