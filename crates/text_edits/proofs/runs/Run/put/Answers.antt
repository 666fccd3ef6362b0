use Rattle.std.proofs.Common.{◌∙◌, ◌++◌, List, ℕ, ap, take, reverse}
use Rattle.std.specs.Prelude.{flat_map}
use Rattle.text_edits.specs.Runs.{piece_text}
use Rattle.text_edits.specs.declared.runs.Piece.{Piece}
use Rattle.text_edits.proofs.Kept.{pieces_more, with_piece}
use Rattle.text_edits.proofs.runs.Run.put.Goals as goal

pub returns-clause-text : goal.returns-clause-text
returns-clause-text c =
    let run = c.args.self.now in
    let piece : Piece = record { new = c.args.new; after = c.range-after.result } in
    let front : List ℕ → List ℕ = λ rest. take c.args.from run.text.now ++ rest in
    ap front
    (ap (λ xs. flat_map piece_text (reverse xs)) c.in_ok-push.ensures.items ∙ pieces_more piece_text run.pieces.items piece
    ∙ with_piece run.text.now c.args.new.now c.range-after.result.now (flat_map piece_text (reverse run.pieces.items)) c.args.to run.kept c.requires.within c.requires.run.kept.0 c.range-after.ensures.value)
