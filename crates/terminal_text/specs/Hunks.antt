-- Which edits are shown: those that change lines, and those that are around them. A hunk is as long a run of them as
-- there is.
use Rattle.std.specs.Prelude.{◌-◌, ◌+◌, ◌^◌, ◌<◌, ◌++◌, ◌||◌, if◌then◌else◌, ℕ, Bool, true, false, not, List, [], ◌∷◌, length, map, take, drop, sum_by}
use Rattle.std.specs.List.{list_any, slice_split}
use Rattle.terminal_text.specs.Edits.{EditView, SameLine, OtherLines, edit_view, old_side, new_side}
use Rattle.terminal_text.specs.declared.hunks.Placed.{Placed}

abbrev pub changes : EditView → Bool
changes (SameLine line) = false
changes (OtherLines old new) = true

-- the first of the edits changes lines, or one of the three before it does, or one of the three after it
abbrev pub is_shown : List EditView → List EditView → Bool
is_shown before es = list_any changes (drop (length before - 3) before) || list_any changes (take 4 es)

-- how many lines the edits have of the one text, and of the other
abbrev pub old_lines : List EditView → ℕ
old_lines es = sum_by (λ e. length (old_side e)) es

abbrev pub new_lines : List EditView → ℕ
new_lines es = sum_by (λ e. length (new_side e)) es

-- an edit, how many lines of the one text and of the other are before it, and whether it is shown
pub record PlacedView : Type 0 where
  pub old : ℕ
  pub new : ℕ
  pub shown : Bool
  pub edit : EditView

abbrev pub placed_view : Placed → PlacedView
placed_view p = record { old = p.old; new = p.new; shown = p.shown; edit = edit_view p.edit }

-- the edits after others, each where it is
abbrev pub placed_edits : List EditView → List EditView → List PlacedView
placed_edits before [] = []
placed_edits before (e ∷ es) =
    record {
      old = old_lines before;
      new = new_lines before;
      shown = is_shown before (e ∷ es);
      edit = e;
    } ∷ placed_edits (before ++ (e ∷ [])) es

-- what is between edits that are not shown: hunks, and nothing
abbrev pub cut_hunks : List PlacedView → List (List PlacedView)
cut_hunks ps = slice_split (λ p. not p.shown) ps

abbrev pub hunks_of : List EditView → List (List PlacedView)
hunks_of es = cut_hunks (placed_edits [] es)

abbrev pub edits_in : List PlacedView → List EditView
edits_in hunk = map (λ p. p.edit) hunk

-- the numbers of its lines are numbers of the machine
abbrev pub Fits : List PlacedView → Type 0
Fits [] = Unit {0}
Fits (p ∷ ps) = (p.old + old_lines (edits_in (p ∷ ps)) < 2 ^ 64) × (p.new + new_lines (edits_in (p ∷ ps)) < 2 ^ 64)

-- how many lines of the one text the edit has, and of the other
abbrev pub old_count : Placed → ℕ
old_count p = length (old_side (edit_view p.edit))

abbrev pub new_count : Placed → ℕ
new_count p = length (new_side (edit_view p.edit))

-- the lines that come of an edit, where the hunks are applied to the old text: where none shows it, the old ones
abbrev pub taken_side : PlacedView → List (List ℕ)
taken_side p = if p.shown then new_side p.edit else old_side p.edit
