-- Two texts that are gone through side by side, run by run of white space.
use Rattle.std.specs.Prelude.{◌≡◌, ◌<◌, ◌≤◌, ◌++◌, not, ℕ, Bool, false, List, length, take, drop, slice_index, All}
use Rattle.std.specs.Char.{is_ascii_whitespace}
use Rattle.tera_layout.specs.Respaced.{without_white}
use Rattle.tera_outline.specs.declared.edits.Edit.{Edit}
use Rattle.tera_outline.specs.declared.edits.Places.{Places}
use Rattle.tera_outline.specs.Edits.{applied, AreApart, ReplacesWhite}

abbrev pub is_black : ℕ → Bool
is_black b = not (is_ascii_whitespace b)

-- the edits make the front of the one text that of the other, and end before the byte `limit` of the one; what is left
-- of both is the same except white space
pub record AreEditsTo (old new : List ℕ) (edits : List Edit) (limit : ℕ) (at : Places) : Type 0 where
  pub fits : (at.old ≤ length old) × (at.new ≤ length new)
  pub alike : without_white (drop at.old old) ≡ without_white (drop at.new new)
  pub front : (rest : List ℕ) → applied edits (take at.old old ++ rest) ≡ take at.new new ++ rest
  pub apart : AreApart edits
  pub replace : All (ReplacesWhite old) edits
  pub ended : All (λ (e : Edit). e.end < limit) edits

-- no white space is at either place
abbrev pub AreAfterRuns : List ℕ → List ℕ → Places → Type 0
AreAfterRuns old new at =
    (is_ascii_whitespace (slice_index old at.old) ≡ false) × (is_ascii_whitespace (slice_index new at.new) ≡ false)
