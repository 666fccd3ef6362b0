-- What is to be reported for documents, in their order, and the documents after that.
use Rattle.std.specs.Prelude.{◌≡◌, ◌≢◌, ◌⊎◌, ℕ, ◌<◌, List, [], ◌∷◌, false, length, map, string_bytes, slice_index_or, Option, None, Some, Vec}
use Rattle.std.specs.declared.alloc.Global.{Global}
use Rattle.tera_templates.specs.declared.templates.Template.{Template}
use Rattle.text_edits.specs.declared.positions.Encoding.{Encoding}
use Rattle.tera_workspace.specs.Diagnostics.{diagnostic_view}
use Rattle.tera_workspace.specs.Fresh.{IsReported}
use Rattle.tera_workspace.specs.Kept.{sources_of, templates_of, reported_of}
use Rattle.tera_workspace.specs.Sources.{Source}
use Rattle.tera_workspace.specs.declared.diagnostics.Diagnostic.{Diagnostic}
use Rattle.tera_workspace.specs.declared.judged.Judged.{Judged}

-- what is to be reported for one: nothing, if it is not stale, or else what is found now
abbrev pub IsNewsBy : Encoding → List Source → List Template → ℕ → Judged → Option (Vec Diagnostic Global) → Type 0
IsNewsBy e sources ts number j None = j.stale ≡ false
IsNewsBy e sources ts number j (Some v) = IsReported e sources ts number j.text j.template (map diagnostic_view v.items)

abbrev pub IsNews : Encoding → List Judged → ℕ → Judged → Option (Vec Diagnostic Global) → Type 0
IsNews e js number j news = IsNewsBy e (sources_of js) (templates_of js) number j news

-- and for all
pub record AreNews (e : Encoding) (js : List Judged) (news : List (Option (Vec Diagnostic Global))) : Type 0 where
  pub as_many : length news ≡ length js
  pub each : (k : ℕ) (d : Judged) → k < length js → IsNews e js k (slice_index_or js k d) (slice_index_or news k None)

-- a document after this was reported for it, and all after these were
abbrev pub reported_one : Judged → Option (Vec Diagnostic Global) → Judged
reported_one j None = j
reported_one j (Some v) = record j { stale = false; reported = v }

abbrev pub reported_each : List Judged → List (Option (Vec Diagnostic Global)) → List Judged
reported_each [] news = []
reported_each (j ∷ js) [] = j ∷ js
reported_each (j ∷ js) (v ∷ news) = reported_one j v ∷ reported_each js news

-- in their order, the names of the documents for which another list was reported than before
abbrev pub AreOfOthers : List Judged → List (Option (Vec Diagnostic Global)) → List (List ℕ) → Type 0
AreOfOthers [] news names = names ≡ []
AreOfOthers (j ∷ js) [] names = names ≡ []
AreOfOthers (j ∷ js) (v ∷ news) names =
    ((reported_of (reported_one j v) ≡ reported_of j) × AreOfOthers js news names)
    ⊎ ((reported_of (reported_one j v) ≢ reported_of j) × (rest : List (List ℕ)) × (names ≡ string_bytes j.template.file ∷ rest) × AreOfOthers js news rest)
