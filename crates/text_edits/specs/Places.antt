-- What is kept of a text, by which its lines and its positions are found.
use Rattle.std.specs.Prelude.{◌≡◌, ◌≢◌, ◌≤◌, ℕ, List, All, slice_index}
use Rattle.text_edits.specs.Lines.{lines_of, starts_of}
use Rattle.text_edits.specs.Walks.{IsReached}
use Rattle.text_edits.specs.declared.lines.Lines.{Lines}
use Rattle.text_edits.specs.declared.positions.Encoding.{Encoding}
use Rattle.text_edits.specs.declared.positions.Encoding.TheVariants.{Utf8, Utf16, Utf32}
use Rattle.text_edits.specs.declared.positions.Position.{Position}
use Rattle.text_edits.specs.declared.walk.Walk.{Walk}

-- the places that are kept, as an encoding counts them
abbrev pub places_in : Encoding → Lines → List Walk
places_in Utf8 l = l.utf8.items
places_in Utf16 l = l.utf16.items
places_in Utf32 l = l.utf32.items

-- they are those of the text: where its lines begin, and places in it
pub record AreLinesOf (text : List ℕ) (l : Lines) : Type 0 where
  pub starts : l.starts.items ≡ starts_of (lines_of text)
  pub places : (e : Encoding) → All (IsReached e text) (places_in e l)

-- a place on the line of the position, up to its character, and not before a line feed
pub record IsPlaceTo (e : Encoding) (text : List ℕ) (p : Position) (w : Walk) : Type 0 where
  pub reached : IsReached e text w
  pub line : w.position.line ≡ p.line
  pub character : w.position.character ≤ p.character
  pub outside : slice_index text w.byte ≢ 10
