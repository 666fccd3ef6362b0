-- A line of a source, as far as it is shown, with a mark below it.
use Rattle.std.specs.Prelude.{ℕ, ◌-◌, min, max, List, [], ◌∷◌, ◌++◌, length, take, drop, replicate, Option, Some, None, unwrap_or, codes, chars, decimal, encode_utf8_all}
use Rattle.terminal_text.specs.Shown.{shown, columns}
use Rattle.terminal_text.specs.Styled.{styled}
use Rattle.terminal_text.specs.declared.excerpt.Marked.{Marked}
use Rattle.terminal_text.specs.declared.style.Part.{Part}
use Rattle.terminal_text.specs.declared.style.Part.TheVariants.{Frame}
use Rattle.terminal_text.specs.declared.style.Style.{Style}

-- the characters of a line: those left out at its start, those shown before the mark, above it and after it, and those
-- left out at its end
pub record Window : Type 0 where
  pub left_out : List ℕ
  pub before : List ℕ
  pub marked : List ℕ
  pub following : List ℕ
  pub beyond : List ℕ

-- the character at which the mark begins, after the last where the line has none of that number
abbrev pub start_in : List ℕ → Marked → ℕ
start_in line m = min m.start (length line)

-- the first character that is shown: the 60th before the mark, or a later or an earlier one, so that of a line of 120
-- characters or more 120 are shown
abbrev pub first_in : List ℕ → Marked → ℕ
first_in line m = min (start_in line m - 60) (length line - 120)

abbrev pub window_of : List ℕ → Marked → Window
window_of line m =
    let first = first_in line m in
    let start = start_in line m in
    let shown_part = take 120 (drop first line) in
    let from = drop (start - first) shown_part in
    let long = unwrap_or m.end (length line) - start in
    record {
      left_out = take first line;
      before = take (start - first) shown_part;
      marked = take long from;
      following = drop long from;
      beyond = drop 120 (drop first line);
    }

-- what stands for characters that are left out
abbrev pub ellipsis : List ℕ → List ℕ
ellipsis [] = []
ellipsis (c ∷ cs) = 0x2026 ∷ []

abbrev pub shown_before : Window → List ℕ
shown_before w = ellipsis w.left_out ++ shown w.before

abbrev pub shown_line : Window → List ℕ
shown_line w = shown_before w ++ (shown w.marked ++ (shown w.following ++ ellipsis w.beyond))

-- what is before a line and before its mark: a number, or none, in so many columns, and a bar
abbrev pub frame : ℕ → List ℕ → List ℕ
frame digits number = replicate (digits - length number) 32 ++ (number ++ codes " | ")

abbrev pub digits_of : ℕ → ℕ
digits_of line = max (length (decimal line)) 5

-- the line of a mark: after so many columns, below so many
abbrev pub mark_line : Style → Part → ℕ → ℕ → ℕ → List ℕ
mark_line style part digits before above =
    styled style Frame (frame digits []) ++ (replicate before 32 ++ (styled style part (replicate (max above 1) 94) ++ 10 ∷ []))

-- what is shown of a line by its number, and the line of the mark
abbrev pub window_text : Style → Part → ℕ → Window → List ℕ
window_text style part line w =
    styled style Frame (frame (digits_of line) (decimal line)) ++ (encode_utf8_all (shown_line w) ++ (10 ∷
    mark_line style part (digits_of line) (columns (shown_before w)) (columns (shown w.marked))))

-- what is shown of the bytes of a line, if there is one
abbrev pub window_in : Option (List ℕ) → Marked → Option Window
window_in None m = None
window_in (Some line) m = Some (window_of (chars line) m)

-- both lines, of the bytes of a line
abbrev pub excerpt : Style → Part → Marked → Option (List ℕ) → List ℕ
excerpt style part m None = []
excerpt style part m (Some line) = window_text style part m.line (window_of (chars line) m)
