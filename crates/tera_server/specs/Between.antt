-- The first syntax errors of documents that have other markers.
use Rattle.std.specs.Prelude.{◌≡◌, ℕ, List, [], map, true, unwrap_or, MatchOption}
use Rattle.std.specs.BTreeMap.{get_by_text}
use Rattle.std.specs.Option.{option_map}
use Rattle.tera_workspace.specs.Between.{IsFaultOfName}
use Rattle.tera_workspace.specs.Diagnostics.{DiagnosticVal, diagnostic_view}
use Rattle.tera_workspace.specs.Names.{is_among}
use Rattle.tera_workspace.specs.declared.workspace.Workspace.{Workspace}
use Rattle.tera_editor.specs.Settings.{markers_for}
use Rattle.tera_server.specs.declared.between.FaultsBetween.{FaultsBetween}
use Rattle.tera_editor.specs.declared.settings.Settings.{Settings}

-- what is found in the document of a name, if it is read between its other markers
abbrev pub Faults : Type 0
Faults = List ℕ → List DiagnosticVal

abbrev pub faults_in : FaultsBetween → Faults
faults_in f n = unwrap_or (option_map (λ v. map diagnostic_view v.items) (get_by_text f.found n)) []

-- In each document with other markers that has one of these names its first syntax error is found, and nothing in
-- documents with the usual ones.
abbrev pub AreFaultsFor : Settings → List (List ℕ) → Workspace → List (List ℕ) → Faults → Type 0
AreFaultsFor s folders w names faults =
    (n : List ℕ) → MatchOption (markers_for s folders n) (faults n ≡ []) (λ m. is_among n names ≡ true → IsFaultOfName w m n (faults n))
