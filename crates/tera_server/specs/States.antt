-- What is visible of a server: the documents by their names, and what it asks for.
use Rattle.std.specs.Prelude.{◌≡◌, ◌⊎◌, ◌++◌, ◌&&◌, if◌then◌else◌, cond, ℕ, List, [], ◌∷◌, Bool, true, false, not, filter, map, string_bytes, Option, None, Some}
use Rattle.std.specs.List.{list_any}
use Rattle.std.specs.Option.{option_eq, option_map, is_some}
use Rattle.std.specs.Str.{bytes_eq}
use Rattle.file_uris.specs.Names.{is_rooted}
use Rattle.tera_workspace.specs.Workspaces.{reported_of_name, IsKept}
use Rattle.text_edits.specs.Documents.{DocumentVal, opened, changed, closed, written, removed}
use Rattle.text_edits.specs.Edits.{ChangeView, NewText, NewPart}
use Rattle.text_edits.specs.Stored.{document_of, IsChangedAt, AreSame}
use Rattle.text_edits.specs.declared.positions.Encoding.{Encoding}
use Rattle.tera_editor.specs.Editors.{SeenVal, seen_of, state_in, with_state, lost}
use Rattle.tera_editor.specs.declared.editor.DocumentState.{DocumentState}
use Rattle.tera_editor.specs.declared.editor.DocumentState.TheVariants.{Open, Lost, Closed}
use Rattle.tera_server.specs.declared.notes.NeededKind.{NeededKind}
use Rattle.tera_server.specs.declared.notes.NeededKind.TheVariants as kinds
use Rattle.tera_editor.specs.KnownFiles.{is_known}
use Rattle.tera_editor.specs.Settings.{finds_more_in_file}
use Rattle.tera_editor.specs.UnreadFiles.{ReasonVal, is_same, unread, why_of, IsWhyAt}
use Rattle.tera_server.specs.declared.server.OnDisk.{OnDisk}
use Rattle.tera_server.specs.declared.server.OnDisk.TheVariants as on_disk
use Rattle.tera_server.specs.declared.server.Server.{Server}
use Rattle.tera_server.specs.declared.server.Needed.{Needed}
use Rattle.tera_server.specs.declared.server.Needed.TheVariants.{Folder, File, Changed}

-- a document: what the editor reported about it, and its texts
pub record Known : Type 0 where
  pub seen : Option SeenVal
  pub texts : DocumentVal

abbrev pub known_of : Server → List ℕ → Known
known_of s n = record { seen = seen_of s.editor n; texts = document_of s.workspace.documents n }

-- the document of this name changes by a function, and nothing else changes
abbrev pub IsKnownAt : List ℕ → (Known → Known) → Server → Server → Type 0
IsKnownAt name change s t = (n : List ℕ) → known_of t n ≡ cond (bytes_eq name n) (change (known_of s n)) (known_of s n)

-- opened with a URI, a version and a text
abbrev pub opened_as : List ℕ → Option ℕ → List ℕ → Known → Known
opened_as uri version text k = record {
  seen = Some (record { uri = uri; version = version; state = Open });
  texts = opened text k.texts;
}

-- whether a change has the whole text
abbrev pub is_whole : ChangeView → Bool
is_whole (NewText text) = true
is_whole (NewPart start end text) = false

-- whether changes are taken: if the text is known, or if one of them has the whole text
abbrev pub takes : DocumentState → List ChangeView → Bool
takes Open changes = true
takes Lost changes = list_any is_whole changes
takes Closed changes = false

abbrev pub with_lost : Known → Known
with_lost k = record { seen = option_map lost k.seen; texts = k.texts }

-- changed to a version; malformed changes, or changes of parts of a text that is not known, lose it
abbrev pub changed_as : Encoding → Option ℕ → Option (List ChangeView) → Known → Known
changed_as e version None k = with_lost k
changed_as e version (Some changes) k =
    if takes (state_in k.seen) changes && is_some k.texts.opened
    then record { seen = option_map (with_state version Open) k.seen; texts = changed e changes k.texts }
    else with_lost k

abbrev pub closed_as : Known → Known
closed_as k = record { seen = option_map (with_state None Closed) k.seen; texts = closed k.texts }

-- the text on disk, or none
abbrev pub loaded_as : Option (List ℕ) → DocumentVal → DocumentVal
loaded_as (Some text) d = written text d
loaded_as None d = removed d

-- ---- what is asked for

pub data NeededVal : Type 0 where
  NeedsFolder : List ℕ → NeededVal
  NeedsFile : List ℕ → NeededVal
  NeedsChanged : List ℕ → NeededVal

abbrev pub needed_view : Needed → NeededVal
needed_view (Folder path) = NeedsFolder (string_bytes path)
needed_view (File path) = NeedsFile (string_bytes path)
needed_view (Changed path) = NeedsChanged (string_bytes path)

abbrev pub needed_of : Server → List NeededVal
needed_of s = map needed_view s.needed.items

-- what is asked for by a name: nothing, if it is not a path
abbrev pub needs_path : NeededKind → List ℕ → NeededVal
needs_path kinds.Folder path = NeedsFolder path
needs_path kinds.File path = NeedsFile path
needs_path kinds.Changed path = NeedsChanged path

abbrev pub needs : NeededKind → List ℕ → List NeededVal
needs kind name = if is_rooted name then needs_path kind name ∷ [] else []

-- ---- what is to be published for a new version

abbrev pub edited_of : Server → List (List ℕ)
edited_of s = map string_bytes s.edited.items

abbrev pub with_name : List ℕ → List (List ℕ) → List (List ℕ)
with_name n ns = if list_any (λ m. bytes_eq m n) ns then ns else ns ++ n ∷ []

-- names that are not among others
abbrev pub names_without : List (List ℕ) → List (List ℕ) → List (List ℕ)
names_without others ns = filter (λ n. not (list_any (λ m. bytes_eq m n) others)) ns

-- ---- what is on disk

-- the text there, if there is one, and why it could not be read
abbrev pub text_on : OnDisk → Option (List ℕ)
text_on (on_disk.Text text) = Some (string_bytes text)
text_on (on_disk.Unread why) = None
text_on on_disk.Nothing = None

abbrev pub why_on : OnDisk → Option ReasonVal
why_on (on_disk.Text text) = None
why_on (on_disk.Unread why) = Some (unread (string_bytes why))
why_on on_disk.Nothing = None

abbrev pub is_there : OnDisk → Bool
is_there (on_disk.Text text) = true
is_there (on_disk.Unread why) = true
is_there on_disk.Nothing = false

-- the names of the documents that are to be published in any case, if this is why a file cannot be read: if the reason
-- changes, the file is among them
abbrev pub edited_by : List ℕ → Option ReasonVal → Server → List (List ℕ)
edited_by path why s = if option_eq is_same (why_of s.unread path) why then edited_of s else with_name path (edited_of s)

-- .. If more is found by the settings for it than without settings, it is always among them, as something else may be
-- found in it. Its name may be there twice then.
abbrev pub finds_more_for : Server → List ℕ → Bool
finds_more_for s path = finds_more_in_file s.settings (map string_bytes s.folders.items) path

abbrev pub edited_with : List ℕ → Option ReasonVal → Server → List (List ℕ)
edited_with path why s = if finds_more_for s path then edited_of s ++ path ∷ [] else edited_by path why s

abbrev pub edited_more : List ℕ → Server → List (List ℕ)
edited_more path s = if finds_more_for s path then edited_of s ++ path ∷ [] else with_name path (edited_of s)

-- this text is on disk under a path, or none is; and this is why the file there cannot be read, or it can be
pub record IsLoadedAs (path : List ℕ) (text : Option (List ℕ)) (why : Option ReasonVal) (s t : Server) : Type 0 where
  pub documents : IsChangedAt path (loaded_as text) s.workspace.documents t.workspace.documents
  pub unread : IsWhyAt path why s.unread t.unread
  pub edited : edited_of t ≡ edited_with path why s

-- an allocation failed for that: the texts do not change, and nothing that is known of the other files
pub record IsNotLoaded (path : List ℕ) (s t : Server) : Type 0 where
  pub documents : AreSame s.workspace.documents t.workspace.documents
  pub unread : (n : List ℕ) → bytes_eq path n ≡ false → why_of t.unread n ≡ why_of s.unread n
  pub known : (n : List ℕ) → bytes_eq path n ≡ false → is_known t.known n ≡ is_known s.known n
  pub edited : (edited_of t ≡ edited_of s) ⊎ (edited_of t ≡ edited_more path s)

-- ---- what may have been a change

-- what was not read may have been a change of any document: no text that is open is known any more
pub record IsMissed (s t : Server) : Type 0 where
  pub same : t ≡ record s { editor = t.editor }
  pub seen : (n : List ℕ) → seen_of t.editor n ≡ option_map lost (seen_of s.editor n)

-- ---- what files do not change

-- what was reported for documents, and how positions are counted, do not change
pub record KeepsReported (s t : Server) : Type 0 where
  pub encoding : t.workspace.encoding ≡ s.workspace.encoding
  pub reported : (n : List ℕ) → reported_of_name t.workspace n ≡ reported_of_name s.workspace n
  pub kept : IsKept s.workspace → IsKept t.workspace

-- ---- what is still to be done

-- more may have been added after these, and none of them is gone
abbrev pub Grows : {A : Type 0} → List A → List A → Type 0
Grows {A} old now = (more : List A) × (now ≡ old ++ more)

-- what was asked for is still asked for, and what was to be published still is
pub record KeepsDue (s t : Server) : Type 0 where
  pub needed : Grows (needed_of s) (needed_of t)
  pub edited : Grows (edited_of s) (edited_of t)

-- ---- what no notification changes

pub record StaysBut (s t : Server) : Type 0 where
  pub phase : t.phase ≡ s.phase
  pub client : t.client ≡ s.client
  pub folders : t.folders ≡ s.folders
  pub known : t.known ≡ s.known
  pub unread : t.unread ≡ s.unread
  pub settings : t.settings ≡ s.settings
  pub sites : t.sites ≡ s.sites
  pub encoding : t.workspace.encoding ≡ s.workspace.encoding
  pub unpublished : t.unpublished ≡ s.unpublished
  pub reported : (n : List ℕ) → reported_of_name t.workspace n ≡ reported_of_name s.workspace n
  pub kept : IsKept s.workspace → IsKept t.workspace
