-- Bytes that are reached one after another.
use Rattle.std.specs.Prelude.{◌≡◌, ◌+◌, ◌≤◌, ◌==◌, if◌then◌else◌, ℕ, List, length, slice_index}
use Rattle.text_edits.specs.Lines.{lines_of, ends_line}
use Rattle.text_edits.specs.Positions.{units, position_of}
use Rattle.text_edits.specs.declared.positions.Encoding.{Encoding}
use Rattle.text_edits.specs.declared.positions.Position.{Position}
use Rattle.text_edits.specs.declared.walk.Walk.{Walk}

-- the position after the first byte, from that before it
abbrev pub position_after : Encoding → List ℕ → Position → Position
position_after e text p =
    if ends_line text then record { line = p.line + 1; character = 0 }
    else (if slice_index text 0 == 13 then p else record { line = p.line; character = p.character + units e (slice_index text 0) })

-- the byte is in the text, and the position is that of the byte
abbrev pub IsReached : Encoding → List ℕ → Walk → Type 0
IsReached e text w = (w.byte ≤ length text) × (w.position ≡ position_of e (lines_of text) w.byte)
