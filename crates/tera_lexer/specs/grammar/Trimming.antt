-- Which texts lose white space to their neighbours.
use Rattle.std.specs.Prelude.{ℕ, nat_eq, Bool, false, ◌||◌, if◌then◌else◌, List, [], ◌∷◌}
use Rattle.std.specs.List.{ends_with}
use Rattle.std.specs.Str.{trim_start, trim_end}
use Rattle.tera_lexer.specs.grammar.Bytes.{dash_byte}
use Rattle.tera_lexer.specs.grammar.Division.{Piece, Text, Comment, Raw, Tag, Ending, Complete, OpenTag, BadTag, OpenRaw, OpenComment}

-- the end of a comment has a dash where the last byte before it is one
abbrev pub ends_dashed : List ℕ → Bool
ends_dashed inside = ends_with nat_eq inside (dash_byte ∷ [])

-- of the pieces to the left, the nearest first: going over comments whose end has no dash, the nearest other is
-- one whose end has a dash
abbrev pub trims_start : List Piece → Bool
trims_start [] = false
trims_start (Text text ∷ left) = false
trims_start (Comment dash inside ∷ left) = trims_start left || ends_dashed inside
trims_start (Raw dash opening body closing ∷ left) = closing.dash_out
trims_start (Tag kind dash items gap end ∷ left) = end

-- of what is to the right, the nearest first: the nearest piece begins with a dash. A tag is one even where it never
-- ends or a fault is in it; a comment or a raw piece that never closes is none.
abbrev pub trims_end : List Piece → Ending → Bool
trims_end [] Complete = false
trims_end [] (OpenTag kind dash items gap) = dash
trims_end [] (BadTag kind dash items gap fault at) = dash
trims_end [] (OpenRaw dash) = false
trims_end [] (OpenComment dash) = false
trims_end (Text text ∷ right) ending = false
trims_end (Comment dash inside ∷ right) ending = dash
trims_end (Raw dash opening body closing ∷ right) ending = dash
trims_end (Tag kind dash items gap end ∷ right) ending = dash

-- a text without the white space at its start, and without that at its end
abbrev pub trimmed : Bool → Bool → List ℕ → List ℕ
trimmed start end text =
    let begun = if start then trim_start text else text in
    if end then trim_end begun else begun
