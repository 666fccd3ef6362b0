-- The catalogue as tokens of JSON: an array with an object for each component.
use Rattle.std.specs.Prelude.{ℕ, List, [], ◌∷◌, ◌++◌, Bool, Option, None, Some, codes, string_bytes}
use Rattle.std.specs.List.{flat_map}
use Rattle.std.specs.Option.{option_map}
use Rattle.json.specs.Token.{Token, begin_object, end_object, begin_array, end_array, key, string, boolean, null}
use Rattle.json_members.specs.Members.{text_member, number_member}
use Rattle.tera_base.specs.Values.{Val}
use Rattle.tera_findings.specs.Findings.{place_of, span_if_any}
use Rattle.tera_findings.specs.declared.finding.Place.{Place}
use Rattle.tera_tree.specs.Infos.{ArgumentInfo, is_required, shown_type_name}
use Rattle.tera_catalogue.specs.Constants.{constant}
use Rattle.tera_catalogue.specs.Listed.{ListedVal, listed_view}
use Rattle.tera_catalogue.specs.declared.components.Component.{Component}

-- a text, or null
abbrev pub text_or_null : Option (List ℕ) → Token
text_or_null None = null
text_or_null (Some text) = string text

-- members: with any value, with a text or null, and with a boolean
abbrev pub member : List ℕ → List Token → List Token
member name value = key name ∷ value

abbrev pub maybe_member : List ℕ → Option (List ℕ) → List Token
maybe_member name text = member name (text_or_null text ∷ [])

abbrev pub truth_member : List ℕ → Bool → List Token
truth_member name truth = member name (boolean truth ∷ [])

-- a place, its line and its column under two names
abbrev pub place_members : List ℕ → List ℕ → Place → List Token
place_members line column place = number_member line place.line ++ number_member column place.column

-- where a parameter is; the start of the file if that is not known
abbrev pub parameter_place : ListedVal → List ℕ → Place
parameter_place l name = place_of (span_if_any (l.parameters name))

-- a parameter: the default is there if the parameter has one
abbrev pub default_member : Option Val → List Token
default_member None = []
default_member (Some v) = member (codes "default") (constant v)

abbrev pub parameter : ListedVal → ArgumentInfo → List Token
parameter l a =
    begin_object ∷ (text_member (codes "name") a.name
    ++ (place_members (codes "line") (codes "column") (parameter_place l a.name)
    ++ (maybe_member (codes "type") (option_map shown_type_name a.typ)
    ++ (truth_member (codes "required") (is_required a)
    ++ (truth_member (codes "implicit") a.implicit ++ (default_member a.default ++ (end_object ∷ [])))))))

abbrev pub parameters_member : ListedVal → List Token
parameters_member l = key (codes "parameters") ∷ begin_array ∷ (flat_map (parameter l) l.info.arguments ++ end_array ∷ [])

-- the parameter that takes what is not an argument
abbrev pub rest_members : ListedVal → Option (List ℕ) → List Token
rest_members l None = maybe_member (codes "rest") None
rest_members l (Some name) =
    text_member (codes "rest") name ++ place_members (codes "rest_line") (codes "rest_column") (parameter_place l name)

-- the metadata, each value under its name
abbrev pub named : List ℕ × Val → List Token
named m = key m.0 ∷ constant m.1

abbrev pub metadata_member : List (List ℕ × Val) → List Token
metadata_member ms = key (codes "metadata") ∷ begin_object ∷ (flat_map named ms ++ end_object ∷ [])

-- a component
abbrev pub info_members : ListedVal → List Token
info_members l = parameters_member l ++ (rest_members l l.info.rest ++ metadata_member l.info.metadata)

abbrev pub object : ListedVal → Option (List ℕ) → List Token
object l call =
    begin_object ∷ (text_member (codes "name") l.info.name
    ++ (text_member (codes "file") l.file
    ++ (place_members (codes "line") (codes "column") l.place
    ++ (info_members l ++ (truth_member (codes "body") l.has_body ++ (maybe_member (codes "call") call ++ (end_object ∷ [])))))))

abbrev pub object_of : Component → List Token
object_of c = object (listed_view c) (option_map string_bytes c.call)

abbrev pub catalogue_tokens : List Component → List Token
catalogue_tokens cs = begin_array ∷ (flat_map object_of cs ++ end_array ∷ [])
