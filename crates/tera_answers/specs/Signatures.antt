-- The head and the parameters of the component that is called at a position.
use Rattle.std.specs.Prelude.{◌≡◌, ◌&&◌, ℕ, Bool, true, false, List, codes, length, map, Option, None, Some}
use Rattle.std.specs.Char.{is_ascii}
use Rattle.std.specs.List.{find, list_all, position}
use Rattle.std.specs.Option.{option_and_then, option_map}
use Rattle.std.specs.Str.{bytes_eq}
use Rattle.json.specs.Json.{Json, null, string, array, object, no_items, item, no_members, member}
use Rattle.json.specs.Token.{Token}
use Rattle.json.specs.Tree.{json_tokens}
use Rattle.json.specs.Value.{items_of}
use Rattle.protocol_values.specs.Writing.{number_json}
use Rattle.tera_outline.specs.Calls.{InCallVal, call_at}
use Rattle.tera_outline.specs.Names.{Named, holds, names_of}
use Rattle.tera_outline.specs.Pieces.{Part, ArePartsOf}
use Rattle.tera_outline.specs.Signatures.{ParameterVal, SignatureVal, signature_of}
use Rattle.tera_workspace.specs.Definitions.{definition_of_name}
use Rattle.tera_workspace.specs.declared.workspace.Workspace.{Workspace}
use Rattle.text_edits.specs.Lines.{lines_of}
use Rattle.text_edits.specs.Positions.{byte_of}
use Rattle.text_edits.specs.declared.positions.Position.{Position}
use Rattle.tera_answers.specs.Hovers.{text_at}
use Rattle.tera_editor.specs.declared.client.Client.{Client}

-- a parameter by the bytes of its name in the head, or by its name
abbrev pub placed_json : ℕ → ℕ → Json
placed_json start end = object (member (codes "label") (array (item (number_json start) (item (number_json end) no_items))) no_members)

abbrev pub label_json : List ℕ → Json
label_json name = object (member (codes "label") (string name) no_members)

abbrev pub parameter_json : Bool → ParameterVal → Json
parameter_json true p = placed_json p.start p.end
parameter_json false p = label_json p.name

unfoldable pub parameter_tokens : Bool → ParameterVal → List Token
parameter_tokens placed p = json_tokens (parameter_json placed p)

-- By their bytes, if the client accepts this and the head is in ASCII: the protocol counts the characters of a head in
-- UTF-16, and these are its bytes then.
abbrev pub are_placed : Bool → List ℕ → Bool
are_placed labels head = labels && list_all is_ascii head

-- the number of the parameter that an argument is for
abbrev pub active_number : List ParameterVal → Option (List ℕ) → Option ℕ
active_number parameters argument = option_and_then (λ name. position (λ p. bytes_eq p.name name) parameters) argument

-- a head with its parameters, of which this one is active
abbrev pub marked_json : Bool → SignatureVal → ℕ → Json
marked_json labels s n =
    object (member (codes "signatures")
    (array (item (object (member (codes "label") (string s.head)
    (member (codes "parameters") (array (items_of (map (parameter_json (are_placed labels s.head)) s.parameters))) no_members))) no_items))
    (member (codes "activeSignature") (number_json 0)
    (member (codes "activeParameter") (number_json n) no_members)))

-- a head without parameters: if none is active, the protocol takes the first as active
abbrev pub plain_json : List ℕ → Json
plain_json head =
    object (member (codes "signatures")
    (array (item (object (member (codes "label") (string head) no_members)) no_items))
    (member (codes "activeSignature") (number_json 0) no_members))

abbrev pub signed_json : Bool → SignatureVal → Option ℕ → Json
signed_json labels s None = plain_json s.head
signed_json labels s (Some n) = marked_json labels s n

-- the head, and its parameters if the argument is for one of them
abbrev pub signature_json : Bool → SignatureVal → Option (List ℕ) → Json
signature_json labels s argument = signed_json labels s (active_number s.parameters argument)

-- the signature of a component, if it has one
abbrev pub reported : Bool → Option (List ℕ) → Option SignatureVal → Json
reported labels argument None = null
reported labels argument (Some s) = signature_json labels s argument

-- this is the signature of the first definition of a component in a text, if it has one
abbrev pub IsSignedIn : Option (List ℕ) → List ℕ → Option SignatureVal → Type 0
IsSignedIn None name s = s ≡ None
IsSignedIn (Some text) name s = (parts : List Part) × ArePartsOf text parts × (s ≡ signature_of text parts name)

-- .. in the first file that defines the component
abbrev pub IsSignedBy : Workspace → List ℕ → Option SignatureVal → Type 0
IsSignedBy w name s = IsSignedIn (text_at w (definition_of_name w name)) name s

-- what is sent for the component that is named in a call
abbrev pub IsSignatureOf : Bool → Workspace → Option (List ℕ) → Option (List ℕ) → Json → Type 0
IsSignatureOf labels w None argument j = j ≡ null
IsSignatureOf labels w (Some name) argument j = (s : Option SignatureVal) × IsSignedBy w name s × (j ≡ reported labels argument s)

abbrev pub IsSignatureBy : Bool → Workspace → List Named → InCallVal → Json → Type 0
IsSignatureBy labels w named c j = IsSignatureOf labels w (option_map (λ n. n.text) (find (holds c.call) named)) c.argument j

-- .. whose call a place is in
abbrev pub IsSignatureIn : Bool → Workspace → List Named → Option InCallVal → Json → Type 0
IsSignatureIn labels w named None j = j ≡ null
IsSignatureIn labels w named (Some c) j = IsSignatureBy labels w named c j

abbrev pub IsSignature : Client → Workspace → List ℕ → Position → Json → Type 0
IsSignature client w text p j =
    (parts : List Part) × ArePartsOf text parts
    × IsSignatureIn client.labels w (names_of parts) (call_at (length text) (byte_of client.encoding (lines_of text) p) parts) j
