-- A text with the suggestions for it.
use Rattle.std.specs.Prelude.{ℕ, List, [], ◌∷◌, ◌++◌, Option, None, Some, Bool, ◌&&◌, if◌then◌else◌, drop, map, nat_le, slice_range, string_bytes}
use Rattle.std.specs.List.Sorted.{IsSortedByKey}
use Rattle.std.specs.Ordering.{nat_cmp}
use Rattle.tera_templates.specs.Boundaries.{is_boundary}
use Rattle.tera_fixes.specs.Suggestions.{SuggestionVal}
use Rattle.tera_fixes.specs.declared.edits.Edit.{Edit}
use Rattle.tera_fixes.specs.declared.parts.Part.{Part}

-- a text in the place of a part
pub record EditVal : Type 0 where
  pub part : Part
  pub text : List ℕ

abbrev pub edit_view : Edit → EditVal
edit_view e = record { part = e.part; text = e.text.now }

-- what a suggestion changes
abbrev pub edits_of : SuggestionVal → List EditVal
edits_of s = map (λ part. record { part = part; text = s.text }) s.parts

abbrev pub edits_if_any : Option SuggestionVal → List EditVal
edits_if_any None = []
edits_if_any (Some s) = edits_of s

-- in the order in which they begin
abbrev pub AreAscending : List Edit → Type 0
AreAscending edits = IsSortedByKey (λ (e : Edit). e.part.start) nat_cmp edits

-- the part is in the text, between characters, and does not begin before the byte
abbrev pub fits : List ℕ → ℕ → Part → Bool
fits text from p =
    nat_le from p.start && (nat_le p.start p.end && (is_boundary text p.start && is_boundary text p.end))

-- the text from a byte on, with each edit that does not overlap the one before it
abbrev pub edited : List ℕ → ℕ → List EditVal → List ℕ
edited text from [] = drop from text
edited text from (e ∷ es) =
    if fits text from e.part then slice_range text from e.part.start ++ (e.text ++ edited text e.part.end es)
    else edited text from es
