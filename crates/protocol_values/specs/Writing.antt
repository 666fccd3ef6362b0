-- Values of the protocol as JSON.
use Rattle.std.specs.Prelude.{ℕ, List, ◌∷◌, codes}
use Rattle.std.specs.Fmt.{decimal}
use Rattle.json.specs.Json.{Json, number, string, object, no_members, member}
use Rattle.json.specs.Token.{Token, key}
use Rattle.json.specs.Tree.{json_tokens}
use Rattle.text_edits.specs.declared.positions.Encoding.{Encoding}
use Rattle.text_edits.specs.declared.positions.Encoding.TheVariants.{Utf8, Utf16, Utf32}
use Rattle.text_edits.specs.declared.positions.Position.{Position}

-- a member, as it is written
abbrev pub member_tokens : List ℕ → Json → List Token
member_tokens name j = key name ∷ json_tokens j

abbrev pub number_json : ℕ → Json
number_json n = number (decimal n)

abbrev pub position_json : Position → Json
position_json p =
    object (member (codes "line") (number_json p.line)
    (member (codes "character") (number_json p.character) no_members))

abbrev pub range_json : Position → Position → Json
range_json start end =
    object (member (codes "start") (position_json start) (member (codes "end") (position_json end) no_members))

-- a part of the text of a file
abbrev pub location_json : List ℕ → Position → Position → Json
location_json uri start end =
    object (member (codes "uri") (string uri) (member (codes "range") (range_json start end) no_members))

-- a text in the place of a part
abbrev pub edit_json : Position → Position → List ℕ → Json
edit_json start end text =
    object (member (codes "range") (range_json start end) (member (codes "newText") (string text) no_members))

-- the name of an encoding
abbrev pub encoding_name : Encoding → List ℕ
encoding_name Utf8 = codes "utf-8"
encoding_name Utf16 = codes "utf-16"
encoding_name Utf32 = codes "utf-32"
