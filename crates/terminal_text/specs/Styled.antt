-- A text in a colour, as a terminal reads it.
use Rattle.std.specs.Prelude.{ℕ, List, ◌∷◌, ◌++◌, codes}
use Rattle.terminal_text.specs.declared.style.Part.{Part}
use Rattle.terminal_text.specs.declared.style.Part.TheVariants.{Error, Warning, Note, Place, Frame, Gone, New}
use Rattle.terminal_text.specs.declared.style.Style.{Style}
use Rattle.terminal_text.specs.declared.style.Style.TheVariants.{Plain, Coloured}

-- an escape that sets how the text after it is shown: colours, bold, or nothing of both
abbrev pub escape : List ℕ → List ℕ
escape parameters = 27 ∷ (codes "[" ++ (parameters ++ codes "m"))

abbrev pub colour : Part → List ℕ
colour Error = escape (codes "1;31")
colour Warning = escape (codes "1;33")
colour Note = escape (codes "1;36")
colour Place = escape (codes "1")
colour Frame = escape (codes "34")
colour Gone = escape (codes "31")
colour New = escape (codes "32")

abbrev pub styled : Style → Part → List ℕ → List ℕ
styled Plain part text = text
styled Coloured part text = colour part ++ (text ++ escape (codes "0"))
