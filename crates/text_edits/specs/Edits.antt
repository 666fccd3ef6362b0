-- Changes of a text.
use Rattle.std.specs.Prelude.{◌++◌, ℕ, List, [], ◌∷◌, take, drop, max}
use Rattle.text_edits.specs.Lines.{lines_of}
use Rattle.text_edits.specs.Positions.{byte_of}
use Rattle.text_edits.specs.declared.edits.Change.{Change}
use Rattle.text_edits.specs.declared.edits.Change.TheVariants.{Whole, Part}
use Rattle.text_edits.specs.declared.positions.Encoding.{Encoding}
use Rattle.text_edits.specs.declared.positions.Position.{Position}

-- what a change stands for: a text in place of all, or of what is between two positions
pub data ChangeView : Type 0 where
  NewText : List ℕ → ChangeView
  NewPart : Position → Position → List ℕ → ChangeView

abbrev pub change_view : Change → ChangeView
change_view (Whole text) = NewText text.now
change_view (Part start end text) = NewPart start end text.now

-- the text after a change; nothing goes where the end is before the start
abbrev pub after : Encoding → List ℕ → ChangeView → List ℕ
after e text (NewText new) = new
after e text (NewPart p q new) =
    let start = byte_of e (lines_of text) p in
    take start text ++ (new ++ drop (max start (byte_of e (lines_of text) q)) text)

-- the text after all of them, each of which speaks of the text that those before it left
abbrev pub edited : Encoding → List ℕ → List ChangeView → List ℕ
edited e text [] = text
edited e text (c ∷ cs) = edited e (after e text c) cs
