-- Lines of errors, and texts for a terminal or another program.
use Rattle.std.specs.Prelude.{ℕ, Bool, if◌then◌else◌, List, [], ◌∷◌, ◌++◌, codes}
use Rattle.line_text.specs.Line.{on_one_line, on_lines}

-- the line of an error of a file
abbrev pub error_line : List ℕ → List ℕ → List ℕ
error_line file why = on_one_line file ++ (codes ": error: " ++ (on_one_line why ++ 10 ∷ []))

-- the name of a file: exact for another program, and safe on a terminal
abbrev pub name_for : Bool → List ℕ → List ℕ
name_for terminal name = if terminal then on_one_line name else name

abbrev pub name_line : Bool → List ℕ → List ℕ
name_line terminal name = name_for terminal name ++ 10 ∷ []

-- the same for a text of several lines
abbrev pub lines_for : Bool → List ℕ → List ℕ
lines_for terminal text = if terminal then on_lines text else text
