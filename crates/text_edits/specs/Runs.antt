-- A text that changes from its end to its start.
use Rattle.std.specs.Prelude.{◌++◌, ℕ, List, take, reverse, flat_map, IsCharBoundary}
use Rattle.text_edits.specs.Places.{AreLinesOf}
use Rattle.text_edits.specs.declared.runs.Piece.{Piece}
use Rattle.text_edits.specs.declared.runs.Run.{Run}

abbrev pub piece_text : Piece → List ℕ
piece_text p = p.new.now ++ p.after.now

-- the text after the changes: what has not changed at its start, and then the pieces, of which the last is kept first
abbrev pub run_text : Run → List ℕ
run_text r = take r.kept r.text.now ++ flat_map piece_text (reverse r.pieces.items)

-- the lines are those of the first text, and what has not changed ends between two characters
pub record IsRun (r : Run) : Type 0 where
  pub lines : AreLinesOf r.text.now r.lines
  pub kept : IsCharBoundary r.text.now r.kept
