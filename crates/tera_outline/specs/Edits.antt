-- Edits of a text that put other white space in the place of white space.
use Rattle.std.specs.Prelude.{◌≡◌, ◌≢◌, ◌-◌, ◌<◌, ◌≤◌, ◌++◌, ℕ, false, List, [], ◌∷◌, length, take, drop, slice_range, slice_index, IsCharBoundary}
use Rattle.std.specs.Char.{is_ascii_whitespace}
use Rattle.std.specs.List.{AllPairs, AllPass}
use Rattle.tera_outline.specs.declared.edits.Edit.{Edit}

-- the text with the edit's text in the place of what is between its bytes
abbrev pub edited : Edit → List ℕ → List ℕ
edited e text = take e.start text ++ (e.text.now ++ drop e.end text)

-- the text with all of the edits made, the last first, so that none moves the place of another
abbrev pub applied : List Edit → List ℕ → List ℕ
applied [] text = text
applied (e ∷ es) text = edited e (applied es text)

-- each begins after the end of those before it, with some byte between
abbrev pub AreApart : List Edit → Type 0
AreApart edits = AllPairs (λ (e f : Edit). e.end < f.start) edits

-- what goes is a run of white space as long as it is, or nothing where no white space is; and what comes is other white
-- space. Both ends are between characters.
pub record ReplacesWhite (text : List ℕ) (e : Edit) : Type 0 where
  pub order : e.start ≤ e.end
  pub within : e.end ≤ length text
  pub goes : AllPass is_ascii_whitespace (slice_range text e.start e.end)
  pub before : e.start ≢ 0 → is_ascii_whitespace (slice_index text (e.start - 1)) ≡ false
  pub following : is_ascii_whitespace (slice_index text e.end) ≡ false
  pub comes : AllPass is_ascii_whitespace e.text.now
  pub differs : e.text.now ≢ slice_range text e.start e.end
  pub starts : IsCharBoundary text e.start
  pub ends : IsCharBoundary text e.end
