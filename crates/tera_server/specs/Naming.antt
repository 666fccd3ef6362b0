-- What is found again of the names of templates.
use Rattle.std.specs.Prelude.{◌≡◌, ◌++◌, ℕ, List, [], Bool}
use Rattle.json_rpc.specs.Outgoing.{Outgoing}
use Rattle.tera_workspace.specs.Definitions.{AreRead}
use Rattle.tera_workspace.specs.Workspaces.{IsKept}
use Rattle.text_edits.specs.Stored.{AreSame}
use Rattle.tera_editor.specs.Sites.{AreAround, AreFitting, AreGiven, AreSaid, HaveOthers, IsPresenceOf, UsedVal, due_of_sites, renewed_of}
use Rattle.tera_server.specs.Sending.{unpublished_of}
use Rattle.tera_server.specs.Settling.{due_of}
use Rattle.tera_server.specs.States.{Grows, KeepsReported, edited_of}
use Rattle.tera_server.specs.declared.server.Phase.TheVariants.{Running}
use Rattle.tera_server.specs.declared.server.Server.{Server}

-- nothing changes but what is read, what is known of sites, and what is to be published, which stays so
pub record OnlyNames (s t : Server) : Type 0 where
  pub same : t ≡ record s { workspace = t.workspace; sites = t.sites; unpublished = t.unpublished; edited = t.edited }
  pub documents : AreSame s.workspace.documents t.workspace.documents
  pub stays : KeepsReported s t
  pub given : AreGiven s.sites → AreGiven t.sites
  pub due : Grows (due_of s) (due_of t)

-- what is to be published stays so, and the documents around which something else is are added to it
pub record AddsNamed (s t : Server) : Type 0 where
  pub named : List (List ℕ)
  pub due : due_of t ≡ due_of s ++ named
  pub around : AreAround named s.sites t.sites

-- The documents are read, and the sites are what they say. Those around which something else is are to be published,
-- and whatever is to be published is published anyhow.
pub record AreNamesRead (s t : Server) : Type 0 where
  pub read : IsKept s.workspace → AreRead t.workspace
  pub fits : IsKept s.workspace → AreFitting t.workspace t.sites
  pub said : AreSaid t.sites
  pub others : AreGiven s.sites → HaveOthers t.sites
  pub named : List (List ℕ)
  pub around : AreAround named s.sites t.sites
  pub edited : edited_of t ≡ due_of s ++ named
  pub unpublished : unpublished_of t ≡ []
  pub renewed : renewed_of t.sites ≡ []

-- The caller has to look for files of these names. So the documents are read, and nothing is published.
pub record AreNamesDue (names : List UsedVal) (s t : Server) (old now : Outgoing) : Type 0 where
  pub running : s.phase ≡ Running
  pub read : AreNamesRead s t
  pub only : OnlyNames s t
  pub due : names ≡ due_of_sites t.sites
  pub unsent : now ≡ old

-- it is set for a name whether there may be a file
pub record IsPresenceSaid (u : UsedVal) (there : Bool) (s t : Server) : Type 0 where
  pub same : t ≡ record s { sites = t.sites }
  pub said : IsPresenceOf u there s.sites t.sites
