-- The answers to requests.
use Rattle.std.specs.Prelude.{◌≡◌, ◌⊎◌, ◌++◌, if◌then◌else◌, ℕ, List, [], ◌∷◌, Bool, true, false, codes, map, string_bytes, MatchResult, Option, None, Some, Result, Vec}
use Rattle.std.specs.Option.{option_map, option_map_or}
use Rattle.std.specs.Str.{bytes_eq}
use Rattle.std.specs.declared.alloc.Global.{Global}
use Rattle.file_uris.specs.Names.{IsNameOf}
use Rattle.json.specs.Json.{Json, null}
use Rattle.json.specs.Token.{Token}
use Rattle.json.specs.Tree.{json_tokens}
use Rattle.json_rpc.specs.Ids.{IdVal}
use Rattle.json_rpc.specs.Writing.{body, answer}
use Rattle.json_rpc.specs.declared.code.Code.{Code}
use Rattle.json_rpc.specs.declared.code.Code.TheVariants as codes_of
use Rattle.protocol_values.specs.Members.{items_in, member_of, text_in}
use Rattle.protocol_values.specs.Reading.{position_in, range_in}
use Rattle.tera_layout.specs.Steady.{is_steady}
use Rattle.tera_lexer.specs.grammar.Marks.{Marks, default_marks}
use Rattle.tera_outline.specs.Names.{Named}
use Rattle.tera_workspace.specs.Definitions.{texts_read, AreRead}
use Rattle.tera_workspace.specs.Workspaces.{reported_of_name, IsKept}
use Rattle.text_edits.specs.Documents.{no_document, text_of}
use Rattle.text_edits.specs.Stored.{document_of, AreSame}
use Rattle.text_edits.specs.declared.positions.Encoding.{Encoding}
use Rattle.text_edits.specs.declared.positions.Position.{Position}
use Rattle.tera_answers.specs.Abilities.{abilities_json}
use Rattle.tera_answers.specs.Actions.{ActingVal, AreWanted, asks_for_corrections}
use Rattle.tera_editor.specs.Clients.{client_in}
use Rattle.tera_answers.specs.Completions.{IsCompletion}
use Rattle.tera_answers.specs.Definitions.{IsNamedAt, place_of, place_json}
use Rattle.tera_editor.specs.Editors.{state_of}
use Rattle.tera_answers.specs.Hovers.{IsHead, hover_json}
use Rattle.tera_answers.specs.Layouts.{IsLayout, IsLayoutIf}
use Rattle.tera_server.specs.Notes.{document_in, uri_given, item_uri, AreNames}
use Rattle.tera_answers.specs.Outlines.{IsOutline}
use Rattle.tera_answers.specs.References.{declares, IsList}
use Rattle.tera_answers.specs.SemanticTokens.{AreTokens}
use Rattle.tera_editor.specs.Settings.{markers_for, registered_for}
use Rattle.tera_answers.specs.Signatures.{IsSignature}
use Rattle.tera_editor.specs.Sites.{site_for}
use Rattle.tera_editor.specs.Templates.{RootsVal}
use Rattle.tera_editor.specs.declared.editor.DocumentState.{DocumentState}
use Rattle.tera_editor.specs.declared.editor.DocumentState.TheVariants.{Open, Lost, Closed}
use Rattle.tera_server.specs.declared.requests.Asked.{Asked}
use Rattle.tera_server.specs.declared.requests.Asked.TheVariants as asks
use Rattle.tera_server.specs.declared.requests.NameRequest.{NameRequest}
use Rattle.tera_server.specs.declared.requests.NameRequest.TheVariants as of_name
use Rattle.tera_server.specs.declared.requests.PlaceRequest.{PlaceRequest}
use Rattle.tera_server.specs.declared.requests.PlaceRequest.TheVariants as at_place
use Rattle.tera_server.specs.declared.requests.TextRequest.{TextRequest}
use Rattle.tera_server.specs.declared.requests.TextRequest.TheVariants as of_text
use Rattle.tera_server.specs.declared.server.Phase.{Phase}
use Rattle.tera_server.specs.declared.server.Phase.TheVariants.{New, Running, ShutDown}
use Rattle.tera_server.specs.declared.server.Server.{Server}

-- what the request of a method asks
abbrev pub asked_of : List ℕ → Asked
asked_of m =
    if bytes_eq m (codes "initialize") then asks.Initialize
    else (if bytes_eq m (codes "shutdown") then asks.Shutdown
    else (if bytes_eq m (codes "textDocument/formatting") then asks.OfText of_text.Formatting
    else (if bytes_eq m (codes "textDocument/documentSymbol") then asks.OfText of_text.Symbols
    else (if bytes_eq m (codes "textDocument/definition") then asks.AtPlace (at_place.OfName of_name.Definition)
    else (if bytes_eq m (codes "textDocument/hover") then asks.AtPlace (at_place.OfName of_name.Hover)
    else (if bytes_eq m (codes "textDocument/references") then asks.AtPlace (at_place.OfName of_name.References)
    else (if bytes_eq m (codes "textDocument/completion") then asks.AtPlace at_place.Completion
    else (if bytes_eq m (codes "textDocument/signatureHelp") then asks.AtPlace at_place.Signature
    else (if bytes_eq m (codes "textDocument/semanticTokens/full") then asks.OfText of_text.SemanticTokens
    else (if bytes_eq m (codes "textDocument/codeAction") then asks.Actions else asks.Other))))))))))

abbrev pub folders_by : Option Json → List Json → List (Option (List ℕ))
folders_by params [] = text_in (member_of (codes "rootUri") params) ∷ []
folders_by params (j ∷ js) = map item_uri (j ∷ js)

-- the URIs of the folders that are open: those of the workspace, or its root if it has none
abbrev pub folders_in : Option Json → List (Option (List ℕ))
folders_in params = folders_by params (items_in (member_of (codes "workspaceFolders") params))

-- the exchange has begun: the client is known, and no document is; what the editor reported, what is asked for and what
-- is to be published do not change
pub record IsBegun (params : Option Json) (s t : Server) : Type 0 where
  pub same : t ≡ record s { phase = t.phase; client = t.client; folders = t.folders; workspace = t.workspace }
  pub phase : t.phase ≡ Running
  pub client : t.client ≡ client_in params
  pub encoding : t.workspace.encoding ≡ t.client.encoding
  pub folders : AreNames (folders_in params) (map string_bytes t.folders.items)
  pub documents : (n : List ℕ) → document_of t.workspace.documents n ≡ no_document
  pub reported : (n : List ℕ) → reported_of_name t.workspace n ≡ []
  pub kept : IsKept t.workspace

-- the editor has the document of a name open, and this is its text
abbrev pub IsOpenAs : List ℕ → Server → List ℕ → Type 0
IsOpenAs name s text = (state_of s.editor name ≡ Open) × (text_of (document_of s.workspace.documents name) ≡ Some text)

-- .. of the document of a URI, which has this name
abbrev pub IsMeantAs : Option (List ℕ) → Server → List ℕ → List ℕ → Type 0
IsMeantAs None s name text = ⊥
IsMeantAs (Some uri) s name text = IsNameOf uri name × IsOpenAs name s text

abbrev pub IsMeant : Option (List ℕ) → Server → List ℕ → Type 0
IsMeant uri s text = (name : List ℕ) × IsMeantAs uri s name text

-- the position in parameters, and the range
abbrev pub place_in : Option Json → Option Position
place_in params = position_in (member_of (codes "position") params)

abbrev pub range_given : Option Json → Option (Position × Position)
range_given params = range_in (member_of (codes "range") params)

-- this is what is named there in the text of the document, if anything is
abbrev pub IsNamed : Option Position → Option (List ℕ) → Server → List ℕ → Option Named → Type 0
IsNamed None uri s name named = ⊥
IsNamed (Some position) uri s name named =
    (text : List ℕ) × IsMeantAs uri s name text × IsNamedAt s.client.encoding text position named

-- documents that changed may have been read, and nothing else of the server changes
pub record HasRead (s t : Server) : Type 0 where
  pub rest : t ≡ record s { workspace = t.workspace }
  pub encoding : t.workspace.encoding ≡ s.workspace.encoding
  pub documents : AreSame s.workspace.documents t.workspace.documents
  pub reported : (n : List ℕ) → reported_of_name t.workspace n ≡ reported_of_name s.workspace n
  pub kept : IsKept s.workspace → IsKept t.workspace

-- the documents were read as they are, and this is the result by them
pub record IsOfCurrentTexts (Holds : Server → Json → Type 0) (s : Server) (j : Json) (t : Server) : Type 0 where
  pub read : IsKept s.workspace → AreRead t.workspace
  pub reported : Holds t j
  pub stays : HasRead s t

-- where the names of templates begin for a document: below the root of its site, if it has one
abbrev pub roots_for : Server → List ℕ → RootsVal
roots_for s name = record {
  root = option_map (λ site. site.root) (site_for s.sites (map string_bytes s.folders.items) name);
  folders = map string_bytes s.folders.items;
}

-- the places that refer to what a name stands for
abbrev pub AreListed : Bool → Option Named → Server → Json → Type 0
AreListed declared None t j = j ≡ null
AreListed declared (Some n) t j =
    IsList (record { named = n; declared = declared; editor = t.editor; encoding = t.client.encoding }) (texts_read t.workspace) j

-- the result of a request about a text: its layout, its outline or its coloured tokens
abbrev pub IsResultOfText : TextRequest → Encoding → List ℕ → Json → Type 0
IsResultOfText of_text.Formatting encoding text j = IsLayout default_marks encoding text j
IsResultOfText of_text.Symbols encoding text j = IsOutline encoding text j
IsResultOfText of_text.SemanticTokens encoding text j = AreTokens encoding text j

-- .. between other markers: only its layout, if these are steady
abbrev pub IsResultBetween : Marks → TextRequest → Encoding → List ℕ → Json → Type 0
IsResultBetween m of_text.Formatting encoding text j = IsLayoutIf (is_steady m) m encoding text j
IsResultBetween m of_text.Symbols encoding text j = j ≡ null
IsResultBetween m of_text.SemanticTokens encoding text j = j ≡ null

-- .. between its markers, if these are not the usual ones
abbrev pub IsResultAsRead : Option Marks → TextRequest → Encoding → List ℕ → Json → Type 0
IsResultAsRead None request encoding text j = IsResultOfText request encoding text j
IsResultAsRead (Some m) request encoding text j = IsResultBetween m request encoding text j

-- .. about the document of a URI, by the settings
abbrev pub IsResultOfDocument : TextRequest → Option (List ℕ) → Server → Json → Type 0
IsResultOfDocument request uri s j =
    (name : List ℕ) × (text : List ℕ) × IsMeantAs uri s name text
    × IsResultAsRead (markers_for s.settings (map string_bytes s.folders.items) name) request s.client.encoding text j

-- .. and about a name: the place that it leads to, the head of its definition, or the places that refer to what it
-- stands for
abbrev pub IsResultOfName : NameRequest → Option Json → List ℕ → Option Named → Server → Json → Type 0
IsResultOfName of_name.Definition params file named t j =
    j ≡ place_json t.editor (place_of t.workspace (roots_for t file) named)
IsResultOfName of_name.Hover params file named t j = (head : Option (List ℕ)) × IsHead t.workspace named head × (j ≡ hover_json head)
IsResultOfName of_name.References params file named t j = AreListed (declares params) named t j

-- this may be typed at the position in the text of the document
abbrev pub IsOffered : Option Position → Option (List ℕ) → Server → Json → Type 0
IsOffered None uri s j = ⊥
IsOffered (Some position) uri s j =
    (name : List ℕ) × (text : List ℕ) × IsMeantAs uri s name text
    × IsCompletion s.client.encoding s.workspace (roots_for s name) (registered_for s.settings (map string_bytes s.folders.items) name) text position j

-- this is what the component takes whose call the position is in
abbrev pub IsSignedAt : Option Position → Option (List ℕ) → Server → Json → Type 0
IsSignedAt None uri s j = ⊥
IsSignedAt (Some position) uri s j =
    (text : List ℕ) × IsMeant uri s text × IsSignature s.client s.workspace text position j

-- these actions are offered for the range of the document, if corrections are wanted
abbrev pub acting_of : Server → ActingVal
acting_of s = record {
  workspace = s.workspace;
  editor = s.editor;
  settings = s.settings;
  folders = map string_bytes s.folders.items;
  encoding = s.client.encoding;
}

abbrev pub AreOfRange : Bool → Option (Position × Position) → Option (List ℕ) → Server → Json → Type 0
AreOfRange wanted None uri s j = ⊥
AreOfRange wanted (Some range) uri s j =
    (name : List ℕ) × (text : List ℕ) × IsMeantAs uri s name text
    × AreWanted wanted (acting_of s) (record { name = name; text = text }) range j

-- the result of a request about a position: about the name there, or about what may be typed there
abbrev pub IsResultAt : PlaceRequest → Option Json → Server → Json → Type 0
IsResultAt (at_place.OfName request) params t j =
    (name : List ℕ) × (named : Option Named) × IsNamed (place_in params) (uri_given (document_in params)) t name named
    × IsResultOfName request params name named t j
IsResultAt at_place.Signature params t j = IsSignedAt (place_in params) (uri_given (document_in params)) t j
IsResultAt at_place.Completion params t j = IsOffered (place_in params) (uri_given (document_in params)) t j

-- the result of a request
abbrev pub Gives : Phase → Asked → Server → Option Json → Json → Server → Type 0
Gives New asks.Initialize s params j t = (j ≡ abilities_json (client_in params).encoding) × IsBegun params s t
Gives Running asks.Shutdown s params j t = (j ≡ null) × (t ≡ record s { phase = ShutDown })
Gives Running (asks.OfText request) s params j t = IsResultOfDocument request (uri_given (document_in params)) s j × (t ≡ s)
Gives Running (asks.AtPlace request) s params j t = IsOfCurrentTexts (IsResultAt request params) s j t
Gives Running asks.Actions s params j t = IsOfCurrentTexts (AreOfRange (asks_for_corrections params) (range_given params) (uri_given (document_in params))) s j t
Gives _ _ s params j t = ⊥

-- why there is no result for a document: the editor does not have it open, or its text is not known
abbrev pub RefusesState : DocumentState → Option (List ℕ) → Code → Type 0
RefusesState Open text code = (text ≡ None) × (code ≡ codes_of.InvalidParams)
RefusesState Lost text code = code ≡ codes_of.RequestFailed
RefusesState Closed text code = code ≡ codes_of.InvalidParams

abbrev pub IsNotOpen : List ℕ → Server → Code → Type 0
IsNotOpen name s code = RefusesState (state_of s.editor name) (text_of (document_of s.workspace.documents name)) code

abbrev pub RefusesDocument : Option (List ℕ) → Server → Code → Type 0
RefusesDocument None s code = code ≡ codes_of.InvalidParams
RefusesDocument (Some uri) s code = (name : List ℕ) × IsNameOf uri name × IsNotOpen name s code

-- .. or there is no position, or no range
abbrev pub RefusesPlace : {A : Type 0} → Option A → Option (List ℕ) → Server → Code → Type 0
RefusesPlace None uri s code = code ≡ codes_of.InvalidParams
RefusesPlace (Some place) uri s code = RefusesDocument uri s code

-- why a request has no result
abbrev pub IsDue : Phase → Asked → Server → Option Json → Code → Type 0
IsDue New asks.Initialize s params code = ⊥
IsDue New _ s params code = code ≡ codes_of.ServerNotInitialized
IsDue Running asks.Initialize s params code = code ≡ codes_of.InvalidRequest
IsDue Running asks.Shutdown s params code = ⊥
IsDue Running (asks.OfText request) s params code = RefusesDocument (uri_given (document_in params)) s code
IsDue Running (asks.AtPlace request) s params code = RefusesPlace (place_in params) (uri_given (document_in params)) s code
IsDue Running asks.Actions s params code = RefusesPlace (range_given params) (uri_given (document_in params)) s code
IsDue Running asks.Other s params code = code ≡ codes_of.MethodNotFound
IsDue ShutDown _ s params code = code ≡ codes_of.InvalidRequest

-- what a request without a result does not change: everything; except that documents may have been read, if it asks
-- about a place or for actions
abbrev pub Remains : Phase → Asked → Server → Server → Type 0
Remains Running (asks.AtPlace request) s t = HasRead s t
Remains Running asks.Actions s t = HasRead s t
Remains _ _ s t = t ≡ s

-- what `Gives` says while the exchange runs, except that `shutdown` has not ended it yet
abbrev pub IsResultWithin : Asked → Server → Option Json → Json → Server → Type 0
IsResultWithin asks.Shutdown s params j t = (j ≡ null) × (t ≡ s)
IsResultWithin asked s params j t = Gives Running asked s params j t

-- the result is written, or the reason is returned why there is none
abbrev pub IsPut : Asked → Server → Option Json → List Token → Result (Unit {0}) Code → Server → List Token → Type 0
IsPut asked s params old r t now =
    MatchResult r (λ _. (j : Json) × IsResultWithin asked s params j t × (now ≡ old ++ json_tokens j))
    (λ code. Remains Running asked s t × ((code ≡ codes_of.InternalError) ⊎ IsDue Running asked s params code))

-- a request is answered by its result; or by an error, and nothing changes: for a reason, or because an allocation
-- failed
abbrev pub IsAnsweredBy : Server → IdVal → Asked → Option Json → Result (Vec ℕ Global) Code → Server → Type 0
IsAnsweredBy s id asked params r t =
    MatchResult r (λ v. (j : Json) × Gives s.phase asked s params j t × (v.items ≡ body (answer id j)))
    (λ code. Remains s.phase asked s t × ((code ≡ codes_of.InternalError) ⊎ IsDue s.phase asked s params code))
