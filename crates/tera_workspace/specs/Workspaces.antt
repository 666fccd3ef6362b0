-- What a workspace has, and when what it reported is what would be found again.
use Rattle.std.specs.Prelude.{◌≡◌, ◌≢◌, ℕ, List, [], true, false, map, string_bytes, unwrap_or}
use Rattle.text_edits.specs.Documents.{text_of}
use Rattle.text_edits.specs.Stored.{document_of}
use Rattle.tera_workspace.specs.Diagnostics.{DiagnosticVal}
use Rattle.tera_workspace.specs.Fresh.{AreFresh}
use Rattle.tera_workspace.specs.Kept.{sources_of, reported_named, AllWhole, AreCurrent}
use Rattle.tera_workspace.specs.Names.{is_among}
use Rattle.tera_workspace.specs.Sources.{Source, AreInOrder, AreSources, AreAscending, text_named}
use Rattle.tera_workspace.specs.declared.workspace.Workspace.{Workspace}

-- what was reported last for the document of a name
abbrev pub reported_of_name : Workspace → List ℕ → List DiagnosticVal
reported_of_name w n = reported_named n w.judged.items

-- what holds of each workspace
pub record IsKept (w : Workspace) : Type 0 where
  pub whole : AllWhole w.judged.items
  pub ordered : AreAscending (sources_of w.judged.items)
  pub current : AreCurrent w.encoding w.judged.items
  pub texts : (n : List ℕ) → is_among n (map string_bytes w.changed.items) ≡ false → text_named n (sources_of w.judged.items) ≡ unwrap_or (text_of (document_of w.documents n)) []

-- what was reported is what is found again in the documents as they are, wherever that is computed; and nothing for
-- others
pub record IsSettled (w : Workspace) : Type 0 where
  pub sources : List Source
  pub are : AreSources w.documents sources
  pub fresh : AreFresh w.encoding sources (reported_of_name w)
  pub others : (n : List ℕ) → is_among n (map (λ s. s.name) sources) ≡ false → reported_of_name w n ≡ []

-- in their order, the names for which another list is reported now than before
pub record AreOthers (names : List (List ℕ)) (before now : List ℕ → List DiagnosticVal) : Type 0 where
  pub ordered : AreInOrder names
  pub others : (n : List ℕ) → is_among n names ≡ true → now n ≢ before n
  pub same : (n : List ℕ) → is_among n names ≡ false → now n ≡ before n
