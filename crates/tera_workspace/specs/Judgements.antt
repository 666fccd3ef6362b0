-- What is found in a document, by the components that all define.
use Rattle.std.specs.Prelude.{◌≡◌, ℕ, List, map, false, slice_get, Option, None, Some}
use Rattle.tera_check.specs.Named.{known_in, first_named, defined_by}
use Rattle.tera_templates.specs.declared.templates.Template.{Template}
use Rattle.tera_workspace.specs.Fresh.{IsFound}
use Rattle.tera_workspace.specs.Kept.{sources_of, templates_of}
use Rattle.tera_workspace.specs.Names.{is_among}
use Rattle.tera_workspace.specs.Sources.{Source}
use Rattle.tera_workspace.specs.declared.judgements.Judgement.{Judgement}
use Rattle.tera_workspace.specs.declared.workspace.Workspace.{Workspace}

-- what is found in the template of a number, with the components that this depends on: for each name the first that any
-- of them defines
pub record IsJudgementAt (ts : List Template) (number : ℕ) (j : Judgement) : Type 0 where
  pub template : slice_get ts number ≡ Some j.template.now
  pub known : (n : List ℕ) → known_in j.catalogue n ≡ first_named n (defined_by 0 ts)
  pub found : IsFound ts number j.template.now j.findings.items

-- .. in the document of a name
pub record IsJudgement (sources : List Source) (ts : List Template) (name : List ℕ) (j : Judgement) : Type 0 where
  pub number : ℕ
  pub named : slice_get (map (λ s. s.name) sources) number ≡ Some name
  pub at : IsJudgementAt ts number j

-- .. if it is among them
abbrev pub IsJudgementIfAny : List Source → List Template → List ℕ → Option Judgement → Type 0
IsJudgementIfAny sources ts name None = is_among name (map (λ s. s.name) sources) ≡ false
IsJudgementIfAny sources ts name (Some j) = IsJudgement sources ts name j

-- what is found by the documents that were read
abbrev pub IsJudgementOf : Workspace → List ℕ → Option Judgement → Type 0
IsJudgementOf w name j = IsJudgementIfAny (sources_of w.judged.items) (templates_of w.judged.items) name j
