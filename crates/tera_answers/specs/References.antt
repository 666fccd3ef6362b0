-- Where a component or a template is named, in all documents.
use Rattle.std.specs.Prelude.{◌≡◌, ◌++◌, ◌&&◌, ◌||◌, not, if◌then◌else◌, List, [], ◌∷◌, Bool, true, false, codes, map, Option}
use Rattle.std.specs.List.{filter, Contains}
use Rattle.std.specs.Str.{bytes_eq}
use Rattle.json.specs.Json.{Json, array}
use Rattle.json.specs.Token.{Token}
use Rattle.json.specs.Tree.{json_tokens}
use Rattle.json.specs.Value.{items_of}
use Rattle.protocol_values.specs.Members.{member_of, is_set}
use Rattle.protocol_values.specs.Writing.{location_json}
use Rattle.tera_outline.specs.Names.{Named, name_view, names_of}
use Rattle.tera_outline.specs.Pieces.{Part, ArePartsOf}
use Rattle.tera_outline.specs.declared.names.NameKind.{NameKind}
use Rattle.tera_outline.specs.declared.names.NameKind.TheVariants.{Called, Closed, Defined, Extended, Included}
use Rattle.tera_workspace.specs.Sources.{Source}
use Rattle.text_edits.specs.declared.positions.Encoding.{Encoding}
use Rattle.tera_answers.specs.Definitions.{is_component}
use Rattle.tera_editor.specs.Editors.{seen_of, uri_in}
use Rattle.tera_answers.specs.Positions.{position_at}
use Rattle.tera_editor.specs.declared.editor.Editor.{Editor}
use Rattle.tera_answers.specs.declared.references.Search.{Search}

-- whether the parameters ask for definitions too
abbrev pub declares : Option Json → Bool
declares params = is_set (member_of (codes "includeDeclaration") (member_of (codes "context") params))

-- what is looked for, whether its definitions count, and how places are reported
pub record LookedFor : Type 0 where
  pub named : Named
  pub declared : Bool
  pub editor : Editor
  pub encoding : Encoding

abbrev pub looked_for_by : Search → LookedFor
looked_for_by s = record { named = name_view s.name.now; declared = s.declared; editor = s.editor.now; encoding = s.encoding }

abbrev pub is_definition : NameKind → Bool
is_definition Called = false
is_definition Closed = false
is_definition Defined = true
is_definition Extended = false
is_definition Included = false

-- both stand for a component, or both for a template
abbrev pub are_alike : NameKind → NameKind → Bool
are_alike k l = if is_component k then is_component l else not (is_component l)

-- a name stands for what is looked for, and counts
abbrev pub refers : LookedFor → Named → Bool
refers k n = are_alike k.named.kind n.kind && (bytes_eq n.text k.named.text && (k.declared || not (is_definition n.kind)))

-- a name in a file, as a location
abbrev pub reference_json : LookedFor → Source → Named → Json
reference_json k s n =
    location_json (uri_in s.name (seen_of k.editor s.name)) (position_at k.encoding s.text n.start) (position_at k.encoding s.text n.end)

-- the names in a file that refer to it, in the order of its text
abbrev pub AreReferencesIn : LookedFor → Source → List Json → Type 0
AreReferencesIn k s js =
    (parts : List Part) × ArePartsOf s.text parts × (js ≡ map (reference_json k s) (filter (refers k) (names_of parts)))

-- .. and in files, in their order
abbrev pub AreReferences : LookedFor → List Source → List Json → Type 0
AreReferences k [] js = js ≡ []
AreReferences k (s ∷ ss) js =
    (first : List Json) × (rest : List Json) × AreReferencesIn k s first × AreReferences k ss rest × (js ≡ first ++ rest)

-- the array of all places
abbrev pub IsList : LookedFor → List Source → Json → Type 0
IsList k sources j = (js : List Json) × AreReferences k sources js × (j ≡ array (items_of js))

-- ---- what holds of them

-- a name is looked for: it has the text, both stand for a component or both for a template, and it is not a definition
-- if these do not count
pub record IsLookedFor (k : LookedFor) (n : Named) : Type 0 where
  pub text : n.text ≡ k.named.text
  pub alike : is_component n.kind ≡ is_component k.named.kind
  pub counts : k.declared ≡ false → is_definition n.kind ≡ false

-- the location of such a name in a text
pub record IsReferenceIn (k : LookedFor) (s : Source) (reported : Json) : Type 0 where
  pub parts : List Part
  pub are : ArePartsOf s.text parts
  pub named : Named
  pub there : Contains (names_of parts) named
  pub looked_for : IsLookedFor k named
  pub location : reported ≡ reference_json k s named

-- the locations of all such names in a text are among these
pub record AreAllOf (k : LookedFor) (s : Source) (reported : List Json) : Type 0 where
  pub parts : List Part
  pub are : ArePartsOf s.text parts
  pub each : (n : Named) → Contains (names_of parts) n → IsLookedFor k n → Contains reported (reference_json k s n)

-- ---- the tokens

unfoldable pub reference_tokens : LookedFor → Source → Named → List Token
reference_tokens k s n = if refers k n then json_tokens (reference_json k s n) else []
