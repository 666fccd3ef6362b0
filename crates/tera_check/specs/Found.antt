-- What is found in templates together.
use Rattle.std.specs.Prelude.{◌≡◌, ◌<◌, ◌≤◌, ℕ, suc, List, [], ◌∷◌, ◌++◌, Bool, map, Option, string_bytes}
use Rattle.std.specs.List.Sorted.{IsPermutation}
use Rattle.tera_check.specs.Due.{due_findings}
use Rattle.tera_templates.specs.FaultFindings.{AreFaultsOf}
use Rattle.tera_findings.specs.Findings.{FindingVal, finding_view}
use Rattle.tera_rules.specs.Judged.{KnownVal}
use Rattle.tera_check.specs.Named.{first_named, defined_by}
use Rattle.tera_check.specs.OrderAndStatus.{IsInOrder}
use Rattle.tera_findings.specs.declared.finding.Finding.{Finding}
use Rattle.tera_check.specs.declared.found.Found.{Found}
use Rattle.tera_templates.specs.declared.templates.Template.{Template}

-- the components that templates define, by their names
abbrev pub known_by : List Template → List ℕ → Option KnownVal
known_by templates name = first_named name (defined_by 0 templates)

-- the faults of a template, and what is due of its tree
pub record IsAllOf (known : List ℕ → Option KnownVal) (open_text : Bool) (number : ℕ) (template : Template) (findings : List Finding) : Type 0 where
  pub faults : List FindingVal
  pub are : AreFaultsOf template faults
  pub found : IsPermutation (faults ++ due_findings known open_text number template) (map finding_view findings)

-- what is found in a template of this number, in the order of the places: all of that; or only the faults, for the
-- library, which is after the templates that are checked
pub record IsFoundOf (known : List ℕ → Option KnownVal) (open_text : Bool) (checked number : ℕ) (template : Template) (findings : List Finding) : Type 0 where
  pub in_order : IsInOrder findings
  pub found : number < checked → IsAllOf known open_text number template findings
  pub of_library : checked ≤ number → AreFaultsOf template (map finding_view findings)

-- what is found in each template, under the name of its file
pub record IsFoundUnder (known : List ℕ → Option KnownVal) (open_text : Bool) (checked number : ℕ) (template : Template) (found : Found) : Type 0 where
  pub file : found.file.now ≡ string_bytes template.file
  pub findings : IsFoundOf known open_text checked number template found.findings.items

pub data AreFound (known : List ℕ → Option KnownVal) (open_text : Bool) (checked : ℕ) : ℕ → List Template → List Found → Type 0 where
  none : {number : ℕ} → AreFound known open_text checked number [] []
  one : {number : ℕ} {template : Template} {found : Found} {templates : List Template} {all : List Found}
      → IsFoundUnder known open_text checked number template found → AreFound known open_text checked (suc number) templates all
      → AreFound known open_text checked number (template ∷ templates) (found ∷ all)

-- what this represents: a file and what is found there
abbrev pub FoundVal : Type 0
FoundVal = List ℕ × List FindingVal

abbrev pub found_view : Found → FoundVal
found_view found = (found.file.now, map finding_view found.findings.items)
