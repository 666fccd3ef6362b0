-- The catalogue as a page of HTML: a section for each component, between a head and a tail.
use Rattle.std.specs.Prelude.{ℕ, List, [], ◌++◌, Bool, if◌then◌else◌, Option, None, Some, codes, string_bytes}
use Rattle.std.specs.Fmt.{decimal}
use Rattle.std.specs.List.{flat_map}
use Rattle.std.specs.Option.{option_map}
use Rattle.tera_base.specs.Text.{inner_text, value_text}
use Rattle.tera_base.specs.Values.{Val}
use Rattle.tera_findings.specs.declared.finding.Place.{Place}
use Rattle.tera_tree.specs.Infos.{Info, ArgumentInfo, shown_type_name}
use Rattle.tera_catalogue.specs.Escapes.{escaped}
use Rattle.tera_catalogue.specs.Listed.{ListedVal, listed_view}
use Rattle.tera_catalogue.specs.declared.frame.TheConstants.{HEAD, TAIL}
use Rattle.tera_catalogue.specs.declared.components.Component.{Component}

-- a text between markup
abbrev pub within : List ℕ → List ℕ → List ℕ → List ℕ
within start text end = start ++ (escaped text ++ end)

-- the row of a parameter: its name, its type, and its default, or why it has none
abbrev pub name_cell : Bool → List ℕ → List ℕ
name_cell implicit name = codes "<tr><td><code>" ++ ((if implicit then codes "@" else []) ++ within [] name (codes "</code></td>"))

abbrev pub type_cell : Option (List ℕ) → List ℕ
type_cell None = codes "<td></td>"
type_cell (Some name) = within (codes "<td>") name (codes "</td>")

abbrev pub no_default : Bool → List ℕ
no_default implicit = if implicit then codes "<td>from the context</td></tr>\n" else codes "<td>required</td></tr>\n"

abbrev pub default_cell : Bool → Option Val → List ℕ
default_cell implicit None = no_default implicit
default_cell implicit (Some v) = within (codes "<td><code>") (inner_text v) (codes "</code></td></tr>\n")

abbrev pub row : ArgumentInfo → List ℕ
row a = name_cell a.implicit a.name ++ (type_cell (option_map shown_type_name a.typ) ++ default_cell a.implicit a.default)

-- the row of the parameter that takes what is not an argument
abbrev pub rest_row : Option (List ℕ) → List ℕ
rest_row None = []
rest_row (Some name) = within (codes "<tr><td><code>...") name (codes "</code></td><td></td><td>all else that is passed</td></tr>\n")

abbrev pub table : Info → List ℕ
table i =
    codes "<table>\n<thead><tr><th>Parameter</th><th>Type</th><th>Default</th></tr></thead>\n<tbody>\n"
    ++ (flat_map row i.arguments ++ (rest_row i.rest ++ codes "</tbody>\n</table>\n"))

-- the metadata
abbrev pub entry : List ℕ × Val → List ℕ
entry m = within (codes "<dt>") m.0 (codes "</dt>") ++ within (codes "<dd>") (value_text m.1) (codes "</dd>\n")

abbrev pub entries : List (List ℕ × Val) → List ℕ
entries ms = codes "<dl>\n" ++ (flat_map entry ms ++ codes "</dl>\n")

-- what is above the table: the name, the place and the call to copy
abbrev pub place_text : List ℕ → Place → Bool → List ℕ
place_text file place has_body =
    within (codes "<p class=\"place\">") file (codes ":")
    ++ (decimal place.line ++ (codes ":" ++ (decimal place.column ++ (if has_body then codes "</p>\n" else codes ", with an empty body</p>\n"))))

abbrev pub call_text : Option (List ℕ) → List ℕ
call_text None = []
call_text (Some call) = within (codes "<p class=\"call\"><code>") call (codes "</code> <button type=\"button\">Copy</button></p>\n")

abbrev pub section : ListedVal → Option (List ℕ) → List ℕ
section l call =
    within (codes "<section>\n<h2>") l.info.name (codes "</h2>\n")
    ++ (place_text l.file l.place l.has_body ++ (call_text call ++ (table l.info ++ (entries l.info.metadata ++ codes "</section>\n"))))

abbrev pub section_of : Component → List ℕ
section_of c = section (listed_view c) (option_map string_bytes c.call)

-- what is before and after the sections, as in the code
unfoldable pub head : List ℕ
head = HEAD.now

unfoldable pub tail : List ℕ
tail = TAIL.now

abbrev pub page_of : List Component → List ℕ
page_of cs = head ++ (flat_map section_of cs ++ tail)
