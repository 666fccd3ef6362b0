-- The position of a byte of a text.
use Rattle.std.specs.Prelude.{ℕ, List}
use Rattle.text_edits.specs.Lines.{lines_of}
use Rattle.text_edits.specs.Positions.{position_of, boundary_to}
use Rattle.text_edits.specs.declared.positions.Encoding.{Encoding}
use Rattle.text_edits.specs.declared.positions.Position.{Position}

abbrev pub position_at : Encoding → List ℕ → ℕ → Position
position_at e text byte = position_of e (lines_of text) (boundary_to text byte)
