use Rattle.std.proofs.Common.{◌≡◌, ◌++◌, reverse, string_bytes, vec_len}
use Rattle.std.specs.Prelude.{flat_map}
use Rattle.text_edits.specs.Runs.{piece_text, run_text}
use Rattle.text_edits.proofs.runs.Run.into_text.Given as goal

-- the text so far, and the pieces that are left
abbrev pub invariant-loop-piece : goal.invariant-loop-piece
invariant-loop-piece l = string_bytes l.whole ++ flat_map piece_text (reverse l.self.pieces.items) ≡ run_text l.fn.self

abbrev pub decreases-loop-piece : goal.decreases-loop-piece
decreases-loop-piece l = vec_len l.self.pieces
