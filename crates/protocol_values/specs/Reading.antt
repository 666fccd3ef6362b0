-- Positions, changes and encodings as JSON says them.
use Rattle.std.specs.Prelude.{◌&&◌, not, if◌then◌else◌, ℕ, List, [], ◌∷◌, Bool, true, false, codes, Option, None, Some}
use Rattle.std.specs.List.{list_any}
use Rattle.std.specs.Option.{option_map, option_and_then}
use Rattle.std.specs.Str.{bytes_eq}
use Rattle.json.specs.Json.{Json, null}
use Rattle.text_edits.specs.Edits.{ChangeView, NewText, NewPart}
use Rattle.text_edits.specs.declared.positions.Encoding.{Encoding}
use Rattle.text_edits.specs.declared.positions.Encoding.TheVariants.{Utf8, Utf16, Utf32}
use Rattle.text_edits.specs.declared.positions.Position.{Position}
use Rattle.protocol_values.specs.Members.{member_of, text_in, number_in, array_in, items_in}

-- a line and a character
abbrev pub position_in : Option Json → Option Position
position_in j =
    option_and_then (λ line. option_map (λ character. record { line = line; character = character })
    (number_in (member_of (codes "character") j))) (number_in (member_of (codes "line") j))

-- where a range begins and where it ends, if both are well formed
abbrev pub range_in : Option Json → Option (Position × Position)
range_in j =
    option_and_then (λ start. option_map (λ end. (start, end))
    (position_in (member_of (codes "end") j))) (position_in (member_of (codes "start") j))

-- the text in place of the range
abbrev pub part_in : Option Json → List ℕ → Option ChangeView
part_in range text = option_map (λ (r : Position × Position). NewPart r.0 r.1 text) (range_in range)

-- whether a range is reported
abbrev pub is_reported : Option Json → Bool
is_reported None = false
is_reported (Some null) = false
is_reported (Some j) = true

-- a change: a text in place of a range, or of all where none is reported
abbrev pub change_in : Json → Option ChangeView
change_in j =
    option_and_then (λ text. if is_reported (member_of (codes "range") (Some j)) then part_in (member_of (codes "range") (Some j)) text else Some (NewText text))
    (text_in (member_of (codes "text") (Some j)))

-- all of them, in order, if each is well formed
abbrev pub each_change : List Json → Option (List ChangeView)
each_change [] = Some []
each_change (j ∷ js) = option_and_then (λ change. option_map (λ changes. change ∷ changes) (each_change js)) (change_in j)

abbrev pub changes_in : Option Json → Option (List ChangeView)
changes_in j = option_and_then each_change (array_in j)

-- whether a text is offered
abbrev pub is_text : List ℕ → Option (List ℕ) → Bool
is_text name None = false
is_text name (Some text) = bytes_eq text name

abbrev pub offers : List ℕ → List Json → Bool
offers name js = list_any (λ j. is_text name (text_in (Some j))) js

-- the encoding of positions that is chosen: UTF-8 where it is offered, UTF-32 where that is and UTF-16 is not, and else
-- UTF-16, which each client knows
abbrev pub encoding_in : Option Json → Encoding
encoding_in j =
    if offers (codes "utf-8") (items_in j) then Utf8
    else (if offers (codes "utf-32") (items_in j) && not (offers (codes "utf-16") (items_in j)) then Utf32 else Utf16)
