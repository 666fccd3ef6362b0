-- The lines of two texts, side by side.
use Rattle.std.specs.Prelude.{◌==◌, if◌then◌else◌, ℕ, List, [], ◌∷◌, map}
use Rattle.std.specs.List.{onto_first}
use Rattle.std.specs.Str.{bytes_eq}
use Rattle.std.specs.Borrow.{Bor}
use Rattle.terminal_text.specs.declared.edits.Edit.{Edit}
use Rattle.terminal_text.specs.declared.edits.Edit.TheVariants.{Same, Other}

-- the lines of a text, each with the line feed that ends it, which the last may lack
abbrev pub lines_of : List ℕ → List (List ℕ)
lines_of [] = []
lines_of (b ∷ bs) = if b == 10 then (b ∷ []) ∷ lines_of bs else onto_first b (lines_of bs)

-- what is in the one text, and what in the other in its place: the same line, or lines and lines
pub data EditView : Type 0 where
  SameLine : List ℕ → EditView
  OtherLines : List (List ℕ) → List (List ℕ) → EditView

abbrev pub texts_of : List (Bor (List ℕ)) → List (List ℕ)
texts_of lines = map (λ l. l.now) lines

abbrev pub edit_view : Edit → EditView
edit_view (Same line) = SameLine line.now
edit_view (Other old new) = OtherLines (texts_of old.now) (texts_of new.now)

-- the lines of the one text, and those of the other
abbrev pub old_side : EditView → List (List ℕ)
old_side (SameLine line) = line ∷ []
old_side (OtherLines old new) = old

abbrev pub new_side : EditView → List (List ℕ)
new_side (SameLine line) = line ∷ []
new_side (OtherLines old new) = new

-- edits before which a line is in place of another
abbrev pub with_other : List ℕ → List ℕ → List EditView → List EditView
with_other o n (OtherLines old new ∷ es) = OtherLines (o ∷ old) (n ∷ new) ∷ es
with_other o n es = OtherLines (o ∷ []) (n ∷ []) ∷ es

-- these lines in place of those, where there are any
abbrev pub others_of : List (List ℕ) → List (List ℕ) → List EditView
others_of [] [] = []
others_of old new = OtherLines old new ∷ []

-- the edits that make the new lines of the old ones, line by line; as many lines as can be are in one edit
abbrev pub edits_of : List (List ℕ) → List (List ℕ) → List EditView
edits_of (o ∷ os) (n ∷ ns) =
    if bytes_eq o n then SameLine o ∷ edits_of os ns else with_other o n (edits_of os ns)
edits_of os ns = others_of os ns
