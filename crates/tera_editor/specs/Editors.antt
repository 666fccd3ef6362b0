-- The documents that an editor has or had open, by their names.
use Rattle.std.specs.Prelude.{◌≡◌, ℕ, List, string_bytes, cond, Option, None, Some}
use Rattle.std.specs.BTreeMap.{get_by_text}
use Rattle.std.specs.Option.{option_map}
use Rattle.std.specs.Str.{bytes_eq}
use Rattle.file_uris.specs.Names.{uri_of}
use Rattle.tera_editor.specs.declared.editor.Editor.{Editor}
use Rattle.tera_editor.specs.declared.editor.Seen.{Seen}
use Rattle.tera_editor.specs.declared.editor.DocumentState.{DocumentState}
use Rattle.tera_editor.specs.declared.editor.DocumentState.TheVariants.{Open, Lost, Closed}

-- a document: its URI as the editor writes it, its version, and whether it is open
pub record SeenVal : Type 0 where
  pub uri : List ℕ
  pub version : Option ℕ
  pub state : DocumentState

abbrev pub seen_view : Seen → SeenVal
seen_view s = record { uri = string_bytes s.uri; version = s.version; state = s.state }

-- what an editor reported about the document of a name
abbrev pub seen_of : Editor → List ℕ → Option SeenVal
seen_of e n = option_map seen_view (get_by_text e.seen n)

abbrev pub state_in : Option SeenVal → DocumentState
state_in None = Closed
state_in (Some s) = s.state

abbrev pub state_of : Editor → List ℕ → DocumentState
state_of e n = state_in (seen_of e n)

-- the URI of the document of a name: as the editor writes it, if it reported about it
abbrev pub uri_in : List ℕ → Option SeenVal → List ℕ
uri_in n None = uri_of n
uri_in n (Some s) = s.uri

abbrev pub version_in : Option SeenVal → Option ℕ
version_in None = None
version_in (Some s) = s.version

-- a document with this version and this state
abbrev pub with_state : Option ℕ → DocumentState → SeenVal → SeenVal
with_state version state s = record { uri = s.uri; version = version; state = state }

abbrev pub state_lost : DocumentState → DocumentState
state_lost Open = Lost
state_lost Lost = Lost
state_lost Closed = Closed

-- .. its text is not known any more, if it is open
abbrev pub lost : SeenVal → SeenVal
lost s = record { uri = s.uri; version = s.version; state = state_lost s.state }

-- the same for what the code keeps of it
abbrev pub seen_lost : Seen → Seen
seen_lost s = record s { state = state_lost s.state }

-- what an editor reported about the document of this name changes by a function, and nothing else changes
abbrev pub IsSeenAt : List ℕ → (Option SeenVal → Option SeenVal) → Editor → Editor → Type 0
IsSeenAt name change old now = (n : List ℕ) → seen_of now n ≡ cond (bytes_eq name n) (change (seen_of old n)) (seen_of old n)

-- nothing changes
abbrev pub AreSeenAlike : Editor → Editor → Type 0
AreSeenAlike old now = (n : List ℕ) → seen_of now n ≡ seen_of old n
