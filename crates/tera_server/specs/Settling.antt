-- What is published when no message waits.
use Rattle.std.specs.Prelude.{◌≡◌, ◌≢◌, ◌⊎◌, ◌++◌, ℕ, List, [], map, string_bytes, true}
use Rattle.json_rpc.specs.Outgoing.{Outgoing}
use Rattle.tera_workspace.specs.Definitions.{AreRead}
use Rattle.tera_workspace.specs.Names.{is_among}
use Rattle.tera_workspace.specs.Workspaces.{reported_of_name, IsKept, IsSettled, AreOthers}
use Rattle.text_edits.specs.Stored.{AreSame}
use Rattle.tera_server.specs.Between.{AreFaultsFor, Faults}
use Rattle.tera_server.specs.Sending.{with_all, messages_of, unpublished_of, names_once}
use Rattle.tera_editor.specs.Sites.{AreAround, AreFitting, AreGiven, AreSaid, HaveOthers, renewed_of}
use Rattle.tera_server.specs.States.{edited_of}
use Rattle.tera_server.specs.declared.server.Phase.{Phase}
use Rattle.tera_server.specs.declared.server.Phase.TheVariants.{New, Running, ShutDown}
use Rattle.tera_server.specs.declared.server.Server.{Server}

-- the documents that are to be published: those that the editor opened, changed or closed, those with new findings
-- that were not published yet, and those whose names of templates mean something else than before
abbrev pub due_of : Server → List (List ℕ)
due_of s = (edited_of s ++ unpublished_of s) ++ renewed_of s.sites

-- what is found in the documents of these names that have other markers
abbrev pub AreBetween : Server → List (List ℕ) → Faults → Type 0
AreBetween s names faults = AreFaultsFor s.settings (map string_bytes s.folders.items) s.workspace names faults

-- What is reported now is published, with the findings on names and those between other markers: for the documents that
-- were to be published, for those whose names of templates mean something else than before, and for those with other
-- findings than before, once for each. The sites by which names are judged are what the documents say now, with the
-- names of which there may be files; and of each name that is missing the program said that there is no file.
pub record ArePublished (s t : Server) (old now : Outgoing) : Type 0 where
  pub settled : IsKept s.workspace → IsSettled t.workspace
  pub read : IsKept s.workspace → AreRead t.workspace
  pub others : List (List ℕ)
  pub are : IsKept s.workspace → AreOthers others (reported_of_name s.workspace) (reported_of_name t.workspace)
  pub named : List (List ℕ)
  pub around : AreAround named s.sites t.sites
  pub fits : IsKept s.workspace → AreFitting t.workspace t.sites
  pub said : AreSaid t.sites
  pub given : AreGiven s.sites → HaveOthers t.sites
  pub faults : Faults
  pub between : AreBetween t (names_once others (due_of s ++ named) ++ names_once [] others) faults
  pub sent : now ≡ with_all old (messages_of t faults (names_once others (due_of s ++ named) ++ names_once [] others))
  pub unpublished : unpublished_of t ≡ []
  pub edited : edited_of t ≡ []
  pub renewed : renewed_of t.sites ≡ []

-- this holds once the exchange has begun; before it and after it nothing is published
abbrev pub IsSettling : Phase → Server → Server → Outgoing → Outgoing → Type 0
IsSettling New s t old now = (t ≡ s) × (now ≡ old)
IsSettling Running s t old now = ArePublished s t old now
IsSettling ShutDown s t old now = (t ≡ s) × (now ≡ old)

-- if an allocation fails, a part is published, and the rest is still to be published
pub record ArePublishedInPart (s t : Server) (old now : Outgoing) : Type 0 where
  pub names : List (List ℕ)
  pub named : List (List ℕ)
  pub around : AreAround named s.sites t.sites
  pub faults : Faults
  pub between : AreBetween t names faults
  pub sent : now ≡ with_all old (messages_of t faults names)
  pub others : IsKept s.workspace → (n : List ℕ) → reported_of_name t.workspace n ≢ reported_of_name s.workspace n → is_among n (unpublished_of t) ≡ true
  pub due : (n : List ℕ) → is_among n (due_of s ++ named) ≡ true → (is_among n names ≡ true) ⊎ (is_among n (due_of t) ≡ true)
  pub only : (n : List ℕ) → is_among n names ≡ true → (is_among n (due_of s ++ named) ≡ true) ⊎ (is_among n (unpublished_of t) ≡ true)

-- What is reported now of the documents as they were read is published, with the findings on names by the sites as they
-- are and those between other markers: for the documents that are to be published anyhow, and for those with other
-- findings than before, once for each.
pub record ArePublishedAsRead (s t : Server) (old now : Outgoing) : Type 0 where
  pub settled : IsKept s.workspace → AreRead s.workspace → IsSettled t.workspace
  pub read : IsKept s.workspace → AreRead s.workspace → AreRead t.workspace
  pub fits : AreFitting s.workspace s.sites → AreFitting t.workspace s.sites
  pub others : List (List ℕ)
  pub are : IsKept s.workspace → AreOthers others (reported_of_name s.workspace) (reported_of_name t.workspace)
  pub faults : Faults
  pub between : AreBetween t (names_once others (edited_of s) ++ names_once [] others) faults
  pub sent : now ≡ with_all old (messages_of t faults (names_once others (edited_of s) ++ names_once [] others))
  pub unpublished : unpublished_of t ≡ []
  pub edited : edited_of t ≡ []

-- only what is reported, what is around templates, and what is to be published changes
pub record OnlyReports (s t : Server) : Type 0 where
  pub same : t ≡ record s { workspace = t.workspace; sites = t.sites; unpublished = t.unpublished; edited = t.edited }
  pub documents : AreSame s.workspace.documents t.workspace.documents
  pub encoding : t.workspace.encoding ≡ s.workspace.encoding
  pub kept : IsKept s.workspace → IsKept t.workspace
  pub given : AreGiven s.sites → AreGiven t.sites
