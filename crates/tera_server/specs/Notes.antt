-- What notifications do.
use Rattle.std.specs.Prelude.{◌≡◌, ◌≢◌, ◌⊎◌, ◌++◌, ⊤, if◌then◌else◌, cond, ℕ, List, [], ◌∷◌, Bool, false, codes, map, string_bytes, Option, None, Some}
use Rattle.std.specs.List.{flat_map}
use Rattle.std.specs.Str.{bytes_eq}
use Rattle.file_uris.specs.Names.{IsNameOf}
use Rattle.json.specs.Json.{Json}
use Rattle.json_rpc.specs.Ids.{TextId}
use Rattle.json_rpc.specs.Writing.{body, request}
use Rattle.protocol_values.specs.Members.{member_of, text_in, number_in, items_in}
use Rattle.protocol_values.specs.Reading.{changes_in}
use Rattle.text_edits.specs.Edits.{ChangeView, edited}
use Rattle.text_edits.specs.Stored.{document_of}
use Rattle.text_edits.specs.declared.positions.Encoding.{Encoding}
use Rattle.tera_answers.specs.Abilities.{registrations_json}
use Rattle.tera_editor.specs.Editors.{state_of}
use Rattle.tera_server.specs.States.{Known, IsKnownAt, IsMissed, opened_as, takes, with_lost, changed_as, closed_as, known_of, NeededVal, needed_of, needs, edited_of, with_name, names_without, StaysBut}
use Rattle.tera_editor.specs.declared.client.Client.{Client}
use Rattle.tera_editor.specs.declared.editor.DocumentState.{DocumentState}
use Rattle.tera_editor.specs.declared.editor.DocumentState.TheVariants.{Open}
use Rattle.tera_server.specs.declared.notes.DocumentNote.{DocumentNote}
use Rattle.tera_server.specs.declared.notes.DocumentNote.TheVariants as of_document
use Rattle.tera_server.specs.declared.notes.Noted.{Noted}
use Rattle.tera_server.specs.declared.notes.Noted.TheVariants as notes
use Rattle.tera_server.specs.declared.notes.NeededKind.TheVariants.{Folder, File, Changed}
use Rattle.tera_server.specs.declared.server.Phase.{Phase}
use Rattle.tera_server.specs.declared.server.Phase.TheVariants.{Running}
use Rattle.tera_server.specs.declared.server.Server.{Server}

-- what the notification of a method says
abbrev pub noted_of : List ℕ → Noted
noted_of m =
    if bytes_eq m (codes "initialized") then notes.Initialized
    else (if bytes_eq m (codes "textDocument/didOpen") then notes.OfDocument of_document.Opened
    else (if bytes_eq m (codes "textDocument/didChange") then notes.OfDocument of_document.Changed
    else (if bytes_eq m (codes "textDocument/didClose") then notes.OfDocument of_document.Closed
    else (if bytes_eq m (codes "workspace/didChangeWatchedFiles") then notes.FilesChanged
    else (if bytes_eq m (codes "workspace/didChangeWorkspaceFolders") then notes.FoldersChanged
    else (if bytes_eq m (codes "exit") then notes.Exit else notes.Other))))))

-- the document in the parameters, and members of it
abbrev pub document_in : Option Json → Option Json
document_in params = member_of (codes "textDocument") params

abbrev pub uri_given : Option Json → Option (List ℕ)
uri_given document = text_in (member_of (codes "uri") document)

abbrev pub version_of : Option Json → Option ℕ
version_of document = number_in (member_of (codes "version") document)

-- a note changes one document
pub record IsNotedAt (name : List ℕ) (change : Known → Known) (s t : Server) : Type 0 where
  pub stays : StaysBut s t
  pub at : IsKnownAt name change s t

-- a document is opened; if the note has no text, the text that is known of it is not the editor's
abbrev pub IsOpened : List ℕ → List ℕ → Option (List ℕ) → Option ℕ → Server → Server → Type 0
IsOpened name uri None version s t = IsNotedAt name with_lost s t × (needed_of t ≡ needed_of s) × (edited_of t ≡ edited_of s)
IsOpened name uri (Some text) version s t =
    IsNotedAt name (opened_as uri version text) s t × (needed_of t ≡ needed_of s) × (edited_of t ≡ with_name name (edited_of s))

-- whether changes are taken: they are well formed, and lead to a text that is known
abbrev pub are_taken : DocumentState → Option (List ChangeView) → Bool
are_taken state None = false
are_taken state (Some changes) = takes state changes

-- the names of the documents that are to be published for a new version, after changes: if the changes are taken, the
-- document is among them
abbrev pub edited_after : Bool → List ℕ → List (List ℕ) → List (List ℕ)
edited_after taken name names = if taken then with_name name names else names

-- .. changed
abbrev pub IsChanged : List ℕ → Option ℕ → Option (List ChangeView) → Server → Server → Type 0
IsChanged name version changes s t =
    IsNotedAt name (changed_as s.workspace.encoding version changes) s t × (needed_of t ≡ needed_of s)
    × (edited_of t ≡ edited_after (are_taken (state_of s.editor name) changes) name (edited_of s))

-- .. closed: its file is asked for, and what is found in it is to be published
abbrev pub IsClosed : List ℕ → Server → Server → Type 0
IsClosed name s t = IsNotedAt name closed_as s t × (needed_of t ≡ needed_of s ++ needs File name) × (edited_of t ≡ with_name name (edited_of s))

-- what a note does to the document of this name and this URI
abbrev pub IsNotedAs : DocumentNote → List ℕ → List ℕ → Server → Option Json → Server → Type 0
IsNotedAs of_document.Opened name uri s params t =
    let document = document_in params in
    IsOpened name uri (text_in (member_of (codes "text") document)) (version_of document) s t
IsNotedAs of_document.Changed name uri s params t =
    IsChanged name (version_of (document_in params)) (changes_in (member_of (codes "contentChanges") params)) s t
IsNotedAs of_document.Closed name uri s params t = IsClosed name s t

-- .. to the document of a URI; if there is none, the note may be about any document
abbrev pub IsNotedOf : DocumentNote → Option (List ℕ) → Server → Option Json → Server → Type 0
IsNotedOf note None s params t = IsMissed s t
IsNotedOf note (Some uri) s params t = (name : List ℕ) × IsNameOf uri name × IsNotedAs note name uri s params t

-- a path without the slash at its end, except that of the root
abbrev pub IsBare : List ℕ → List ℕ → Type 0
IsBare path bare =
    ((path ≡ bare ++ codes "/") × (bare ≢ []))
    ⊎ ((path ≡ bare) × ((front : List ℕ) → front ≢ [] → path ≢ front ++ codes "/"))

-- the name that a URI gives to a folder, or to a file that changed: a slash at its end does not count
abbrev pub IsBareNameOf : List ℕ → List ℕ → Type 0
IsBareNameOf uri bare = (name : List ℕ) × IsNameOf uri name × IsBare name bare

-- the names of these URIs, except what has none
abbrev pub AreNames : List (Option (List ℕ)) → List (List ℕ) → Type 0
AreNames [] names = names ≡ []
AreNames (None ∷ uris) names = AreNames uris names
AreNames (Some uri ∷ uris) names = (name : List ℕ) × (rest : List (List ℕ)) × IsBareNameOf uri name × (names ≡ name ∷ rest) × AreNames uris rest

-- the name of what has this URI is added, if it has one
abbrev pub AddsName : Option (List ℕ) → List (List ℕ) → List (List ℕ) → Type 0
AddsName None old now = now ≡ old
AddsName (Some uri) old now = (name : List ℕ) × IsBareNameOf uri name × (now ≡ old ++ name ∷ [])

-- the URI of a folder, or of a file that changed
abbrev pub item_uri : Json → Option (List ℕ)
item_uri j = uri_given (Some j)

-- only what is asked for changes
pub record IsAsked (needed : List NeededVal) (s t : Server) : Type 0 where
  pub same : t ≡ record s { needed = t.needed }
  pub asked : needed_of t ≡ needed_of s ++ needed

-- folders were opened, and others were closed; both are asked for
pub record AreFoldersChanged (event : Option Json) (open_before : List (List ℕ)) (needed : List NeededVal) (open_now : List (List ℕ)) (needed_now : List NeededVal) : Type 0 where
  pub added : List (List ℕ)
  pub removed : List (List ℕ)
  pub are_added : AreNames (map item_uri (items_in (member_of (codes "added") event))) added
  pub are_removed : AreNames (map item_uri (items_in (member_of (codes "removed") event))) removed
  pub folders : open_now ≡ names_without removed open_before ++ added
  pub asked : needed_now ≡ (needed ++ flat_map (needs Folder) removed) ++ flat_map (needs Folder) added

abbrev pub folders_of : Server → List (List ℕ)
folders_of s = map string_bytes s.folders.items

-- .. and nothing else changes
pub record HasOtherFolders (event : Option Json) (s t : Server) : Type 0 where
  pub changed : AreFoldersChanged event (folders_of s) (needed_of s) (folders_of t) (needed_of t)
  pub same : t ≡ record s { folders = t.folders; needed = t.needed }

-- what a notification does, once the exchange has begun
abbrev pub IsNotedBy : Noted → Server → Option Json → Server → Type 0
IsNotedBy notes.Initialized s params t = IsAsked (flat_map (needs Folder) (map string_bytes s.folders.items)) s t
IsNotedBy (notes.OfDocument note) s params t = IsNotedOf note (uri_given (document_in params)) s params t
IsNotedBy notes.FilesChanged s params t =
    (names : List (List ℕ)) × AreNames (map item_uri (items_in (member_of (codes "changes") params))) names
    × IsAsked (flat_map (needs Changed) names) s t
IsNotedBy notes.FoldersChanged s params t = HasOtherFolders (member_of (codes "event") params) s t
IsNotedBy notes.Exit s params t = t ≡ s
IsNotedBy notes.Other s params t = t ≡ s

-- .. and nothing before it and after it
abbrev pub IsNotedIn : Phase → Noted → Server → Option Json → Server → Type 0
IsNotedIn Running noted s params t = IsNotedBy noted s params t
IsNotedIn _ noted s params t = t ≡ s

abbrev pub IsNoted : Noted → Server → Option Json → Server → Type 0
IsNoted noted s params t = IsNotedIn s.phase noted s params t

-- what is sent at once: once the exchange has begun, the client is asked to watch files, if it can
abbrev pub watch_requests : Client → List (List ℕ)
watch_requests client = if client.watches then body (request (TextId (codes "watch")) (codes "client/registerCapability") registrations_json) ∷ [] else []

abbrev pub sent_within : Noted → Server → List (List ℕ)
sent_within notes.Initialized s = watch_requests s.client
sent_within _ s = []

abbrev pub sent_in : Phase → Noted → Server → List (List ℕ)
sent_in Running noted s = sent_within noted s
sent_in _ noted s = []

abbrev pub sent_by : Noted → Server → List (List ℕ)
sent_by noted s = sent_in s.phase noted s

-- ---- parts of this

-- if an allocation fails, the texts that are known to be open do not change; the document of this name is not among
-- them
abbrev pub IsHeldAside : List ℕ → Server → Server → Type 0
IsHeldAside name s t = (n : List ℕ) → state_of t.editor n ≡ Open → (bytes_eq name n ≡ false) × (known_of t n ≡ known_of s n)

-- .. the document of this URI
abbrev pub IsHeldBut : Option (List ℕ) → Server → Server → Type 0
IsHeldBut None s t = IsMissed s t
IsHeldBut (Some uri) s t = (name : List ℕ) → IsNameOf uri name → IsHeldAside name s t

-- ---- what the editor has

-- the texts that the editor has open, by the names of the documents
abbrev pub Texts : Type 0
Texts = List ℕ → Option (List ℕ)

-- one of them changes
abbrev pub IsTextAt : List ℕ → Option (List ℕ) → Texts → Texts → Type 0
IsTextAt name text old now = (n : List ℕ) → now n ≡ cond (bytes_eq name n) text (old n)

-- it is opened with the text in the note; if there is none, with any text
abbrev pub EditOpened : Option (List ℕ) → Option (List ℕ) → Type 0
EditOpened None now = ⊤
EditOpened (Some text) now = now ≡ Some text

-- one that is open is changed; if the changes cannot be read, to any text
abbrev pub EditChanged : Encoding → Option (List ChangeView) → Option (List ℕ) → Option (List ℕ) → Type 0
EditChanged e None old now = ⊤
EditChanged e (Some changes) old now = (text : List ℕ) × (old ≡ Some text) × (now ≡ Some (edited e text changes))

-- what a note does to the text of a document, which it opens, changes or closes
abbrev pub Edit : Encoding → DocumentNote → Option Json → Option (List ℕ) → Option (List ℕ) → Type 0
Edit e of_document.Opened params old now = EditOpened (text_in (member_of (codes "text") (document_in params))) now
Edit e of_document.Changed params old now = EditChanged e (changes_in (member_of (codes "contentChanges") params)) old now
Edit e of_document.Closed params old now = now ≡ None

-- .. to all texts: to the document of a URI; if there is none, to any document
abbrev pub EditsOf : Encoding → DocumentNote → Option (List ℕ) → Option Json → Texts → Texts → Type 0
EditsOf e note None params old now = ⊤
EditsOf e note (Some uri) params old now =
    (name : List ℕ) × (text : Option (List ℕ)) × IsNameOf uri name × Edit e note params (old name) text × IsTextAt name text old now

abbrev pub Edits : Encoding → Noted → Option Json → Texts → Texts → Type 0
Edits e (notes.OfDocument note) params old now = EditsOf e note (uri_given (document_in params)) params old now
Edits e _ params old now = (n : List ℕ) → now n ≡ old n

-- each text that is known to be open is the editor's
abbrev pub IsInStep : Texts → Server → Type 0
IsInStep texts s = (n : List ℕ) → state_of s.editor n ≡ Open → (document_of s.workspace.documents n).opened ≡ texts n
