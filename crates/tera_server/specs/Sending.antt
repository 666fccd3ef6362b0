-- What is sent about documents.
use Rattle.std.specs.Prelude.{◌≡◌, ◌++◌, ℕ, List, [], ◌∷◌, Bool, if◌then◌else◌, map, string_bytes}
use Rattle.std.specs.List.{flat_map}
use Rattle.std.specs.Option.{option_map_or}
use Rattle.json_rpc.specs.Outgoing.{Outgoing}
use Rattle.json_rpc.specs.Writing.{body}
use Rattle.tera_workspace.specs.Diagnostics.{DiagnosticVal}
use Rattle.tera_workspace.specs.Names.{is_among}
use Rattle.tera_workspace.specs.Sites.{named_of_name}
use Rattle.tera_workspace.specs.Unregistered.{unknown_of_name}
use Rattle.tera_workspace.specs.Workspaces.{reported_of_name}
use Rattle.tera_workspace.specs.declared.workspace.Workspace.{Workspace}
use Rattle.tera_server.specs.Between.{Faults, faults_in}
use Rattle.tera_editor.specs.Editors.{state_of}
use Rattle.tera_server.specs.Findings.{published}
use Rattle.tera_editor.specs.Settings.{FaultsAlone, listing_for, registered_in, reported_for, shown_in}
use Rattle.tera_editor.specs.Sites.{site_for}
use Rattle.tera_editor.specs.declared.editor.Editor.{Editor}
use Rattle.tera_editor.specs.declared.editor.DocumentState.{DocumentState}
use Rattle.tera_editor.specs.declared.editor.DocumentState.TheVariants.{Open, Lost, Closed}
use Rattle.tera_server.specs.declared.findings.Publishing.{Publishing}
use Rattle.tera_server.specs.declared.server.Server.{Server}
use Rattle.tera_editor.specs.declared.settings.Settings.{Settings}
use Rattle.tera_editor.specs.declared.sites.Sites.{Sites}
use Rattle.tera_editor.specs.declared.unread.UnreadFiles.{UnreadFiles}
use Rattle.tera_editor.specs.UnreadFiles.{why_of}

-- more messages, in order
abbrev pub with_all : Outgoing → List (List ℕ) → Outgoing
with_all o messages = record { sent = o.sent ++ messages; reserved = o.reserved }

-- what messages depend on: what the editor has, which files cannot be read, whether the notes of a finding are sent,
-- the settings, the sites by which names are judged, what is found between other markers, and the folders that are open
pub record Publisher : Type 0 where
  pub editor : Editor
  pub unread : UnreadFiles
  pub related : Bool
  pub settings : Settings
  pub sites : Sites
  pub between : Faults
  pub folders : List (List ℕ)

abbrev pub publisher : Publishing → Publisher
publisher p = record {
  editor = p.editor.now;
  unread = p.unread.now;
  related = p.related;
  settings = p.settings.now;
  sites = p.sites.now;
  between = faults_in p.between.now;
  folders = map string_bytes p.folders.now;
}

abbrev pub publisher_of : Server → Faults → Publisher
publisher_of s faults = record {
  editor = s.editor;
  unread = s.unread;
  related = s.client.related;
  settings = s.settings;
  sites = s.sites;
  between = faults;
  folders = map string_bytes s.folders.items;
}

-- the filters, tests and functions in the document of a name that the program does not have, if the settings list some
abbrev pub unknown_for : Publisher → Workspace → List ℕ → List DiagnosticVal
unknown_for p w n = option_map_or (λ settings. unknown_of_name w (registered_in settings) n) (listing_for p.settings p.folders n) []

-- the findings on names of templates in it, if there is a site for it
abbrev pub named_for : Publisher → Workspace → List ℕ → List DiagnosticVal
named_for p w n = option_map_or (λ site. named_of_name w site n) (site_for p.sites p.folders n) []

-- what was reported last for the document of a name, and these, as far as they are on by the settings, with the
-- severities of their rules; and what is found between other markers
abbrev pub shown_of : Publisher → Workspace → List ℕ → List DiagnosticVal
shown_of p w n =
    shown_in (reported_for p.settings p.folders n) (reported_of_name w n ++ (unknown_for p w n ++ named_for p w n))
    ++ shown_in FaultsAlone (p.between n)

-- what is published for the document of a name: why its file cannot be read, or is wrong, and its findings
unfoldable pub found_message : Publisher → Workspace → List ℕ → List ℕ
found_message p w n = body (published p.editor p.related n (why_of p.unread n) (shown_of p w n))

-- .. unless the editor has it open with a text that is not known
abbrev pub unless_lost : DocumentState → List ℕ → List (List ℕ)
unless_lost Open message = message ∷ []
unless_lost Lost message = []
unless_lost Closed message = message ∷ []

-- the messages for documents, in order
abbrev pub messages_in : Publisher → Workspace → List (List ℕ) → List (List ℕ)
messages_in p w ns = flat_map (λ n. unless_lost (state_of p.editor n) (found_message p w n)) ns

abbrev pub messages_of : Server → Faults → List (List ℕ) → List (List ℕ)
messages_of s faults ns = messages_in (publisher_of s faults) s.workspace ns

-- the messages for the first of some documents were sent
abbrev pub SendsFirst : (List (List ℕ) → List (List ℕ)) → List (List ℕ) → Outgoing → Outgoing → Type 0
SendsFirst messages ns old now =
    (first : List (List ℕ)) × (rest : List (List ℕ)) × (ns ≡ first ++ rest) × (now ≡ with_all old (messages first))

-- the names of the documents that are still to be published
abbrev pub unpublished_of : Server → List (List ℕ)
unpublished_of s = map string_bytes s.unpublished.items

-- names that are not among others, each once
abbrev pub names_once : List (List ℕ) → List (List ℕ) → List (List ℕ)
names_once others [] = []
names_once others (n ∷ ns) = if is_among n others then names_once others ns else n ∷ names_once (n ∷ others) ns
