-- What the laws say of an excerpt.
use Rattle.std.specs.Prelude.{◌≡◌, ◌+◌, ◌-◌, ◌⊎◌, ◌++◌, ℕ, min, max, List, [], ◌∷◌, length, unwrap_or, encode_utf8_all, All}
use Rattle.terminal_text.specs.Excerpt.{Window, shown_before, shown_line}
use Rattle.terminal_text.specs.Shown.{shown, columns}
use Rattle.terminal_text.specs.declared.excerpt.Marked.{Marked}
use Rattle.terminal_text.specs.declared.style.Style.{Style}
use Rattle.terminal_text.specs.declared.style.Style.TheVariants.{Plain, Coloured}

-- the parts of a window are those of the line: the mark begins where it is said to, or after the line's last character,
-- and is cut to what is shown; 120 characters are shown, if there are as many, and of these 60 before the mark, but
-- near the line's start or its end
pub record IsWindow (line : List ℕ) (m : Marked) (w : Window) : Type 0 where
  pub whole : w.left_out ++ (w.before ++ (w.marked ++ (w.following ++ w.beyond))) ≡ line
  pub begin : length (w.left_out ++ w.before) ≡ min m.start (length line)
  pub long : length w.marked ≡ min (unwrap_or m.end (length line) - min m.start (length line)) (length (w.marked ++ w.following))
  pub shown : length (w.before ++ (w.marked ++ w.following)) ≡ min 120 (length line)
  pub near : (length w.before ≡ 60) ⊎ ((w.left_out ≡ []) ⊎ (w.beyond ≡ []))

-- the text has two lines: the window after something, and after as many columns as are before the marked characters the
-- mark, of as many columns as they take, or one
pub record IsMarkedBelow (text : List ℕ) (w : Window) : Type 0 where
  pub before : List ℕ
  pub below : List ℕ
  pub mark : List ℕ
  pub lines : text ≡ encode_utf8_all (before ++ (shown_line w ++ (10 ∷ (below ++ (mark ++ 10 ∷ [])))))
  pub place : columns below ≡ columns before + columns (shown_before w)
  pub long : columns mark ≡ max (columns (shown w.marked)) 1
  pub carets : All (λ c. c ≡ 94) mark

-- how many escapes the colours of an excerpt are
abbrev pub escapes : Style → ℕ
escapes Plain = 0
escapes Coloured = 6
