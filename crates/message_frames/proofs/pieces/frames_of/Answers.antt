use Rattle.std.proofs.Common.{◌≡◌, ◌<◌, length, ◌+◌, ◌++◌, ◌∷◌, [], ℕ, List, take, sym, ap, subst, ◌∙◌}
use Rattle.std.specs.List.{flat_map}
use Rattle.std.proofs.lemmas.List.{take_all, take_more, flat_map_more}
use Rattle.message_frames.specs.Representing.{Represents}
use Rattle.message_frames.specs.Pieces.{AllTaken}
use Rattle.message_frames.proofs.Taking.{nothing_taken, piece_taken, no_other}
use Rattle.message_frames.proofs.pieces.frames_of.Goals as goal

pub pieces-init : goal.pieces-init
pieces-init c = record {
  limit = c.new-stream.ensures.limit;
  taken = rw c.new-frames.ensures.items (nothing_taken c.args.limit c.new-stream.result c.new-stream.ensures.represents);
}

pub pieces-preserved : goal.pieces-preserved
pieces-preserved c =
    let pieces = c.args.pieces.now in
    let i = c.pieces.piece-index in
    let piece = c.piece-item.result in
    let limit = c.args.limit in
    let before = flat_map (λ piece. piece.items) (take i pieces) in
    let so_far = c.pieces.invariant in
    let pushed : c.push.new.self.limit ≡ limit = c.in_ok-push.ensures.limit ∙ so_far.limit in
    let lt : i < length pieces = c.pieces-test.true in
    let one : take (i + 1) pieces ≡ take i pieces ++ piece ∷ [] =
    take_more pieces i piece lt ∙ ap (λ p. take i pieces ++ p ∷ []) (sym c.piece-item.is) in
    let more : flat_map (λ piece. piece.items) (take (i + 1) pieces) ≡ before ++ piece.items =
    ap (flat_map (λ piece. piece.items)) one ∙ sym (flat_map_more (λ piece. piece.items) [] (take i pieces) piece) in
    let push : (pending : List ℕ) → Represents c.pieces.stream pending → Represents c.push.new.self (pending ++ piece.items) =
    λ pending h. subst (λ (x : List ℕ). Represents c.push.new.self (pending ++ x)) c.as_slice.ensures.value (c.in_ok-push.ensures.represents pending h) in
    let all : (pending : List ℕ) → Represents c.push.new.self pending → AllTaken limit pending c.pieces.frames.items c.take_all.new.frames.items c.take_all.new.stream =
    λ pending h. subst (λ n. AllTaken n pending c.pieces.frames.items c.take_all.new.frames.items c.take_all.new.stream) pushed (c.in_ok-take_all.ensures.taken pending h) in
    record {
      limit = c.in_ok-take_all.ensures.limit ∙ pushed;
      taken = rw more (piece_taken limit before piece.items c.pieces.frames.items c.take_all.new.frames.items c.pieces.stream c.push.new.self c.take_all.new.stream so_far.taken push all);
    }

pub returns-clause-only : goal.returns-clause-only
returns-clause-only c =
    let pieces = c.args.pieces.now in
    let all : take c.pieces.piece-index pieces ≡ pieces = take_all c.pieces.piece-index pieces c.pieces-test.false in
    no_other c.args.limit (flat_map (λ piece. piece.items) pieces) c.pieces.frames.items c.pieces.stream (rw all at c.pieces.invariant.taken)

pub returns-clause-split : goal.returns-clause-split
returns-clause-split c =
    let pieces = c.args.pieces.now in
    let all : take c.pieces.piece-index pieces ≡ pieces = take_all c.pieces.piece-index pieces c.pieces-test.false in
    let whole : AllTaken c.args.limit (flat_map (λ piece. piece.items) pieces) [] c.pieces.frames.items c.pieces.stream =
    rw all at c.pieces.invariant.taken in
    (whole.taken.items, whole.taken.rest, record { whole = whole.taken.begins; partial = whole.partial }, whole.taken.stated)
