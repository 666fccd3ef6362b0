-- What is written of files together: what is found in them, and their components.
use Rattle.std.specs.Prelude.{◌≡◌, ◌⊎◌, ◌++◌, ℕ, List, [], ◌∷◌, All, map}
use Rattle.std.specs.List.{flat_map}
use Rattle.std.specs.List.Sorted.{IsPermutation}
use Rattle.json.specs.Print.{print}
use Rattle.json.specs.Layout.{pretty}
use Rattle.tera_catalogue.specs.Listed.{listed, listed_view, IsInOrder}
use Rattle.tera_catalogue.specs.Objects.{catalogue_tokens}
use Rattle.tera_catalogue.specs.Offered.{IsOffered}
use Rattle.tera_catalogue.specs.declared.components.Component.{Component}
use Rattle.tera_findings.specs.Findings.{FindingVal}
use Rattle.tera_check.specs.Found.{AreFound, FoundVal, found_view, known_by}
use Rattle.tera_templates.specs.Lost.{are_open}
use Rattle.tera_check.specs.Named.{defined_by}
use Rattle.tera_findings.specs.Objects.{object_of}
use Rattle.tera_check.specs.declared.found.Found.{Found}
use Rattle.tera_templates.specs.declared.templates.Template.{Template}
use Rattle.tera_c.specs.Files.{AreReadFrom, IsUnread}
use Rattle.tera_c.specs.Statuses.{IsPut, IsLeft}
use Rattle.tera_c.specs.declared.shapes.AskedFile.{AskedFile}
use Rattle.tera_c.specs.declared.status.Status.{Status}

-- the line of a finding: its object of JSON, without white space
abbrev pub finding_line : List ℕ → FindingVal → List ℕ
finding_line file finding = print (object_of file finding) ++ 10 ∷ []

abbrev pub finding_lines : FoundVal → List ℕ
finding_lines found = flat_map (finding_line found.0) found.1

-- the lines of what the checker finds in templates, each under the name of its file
abbrev pub AreFindings : ℕ → List Template → List ℕ → Type 0
AreFindings checked templates text =
    (all : List Found) × AreFound (known_by templates) (are_open templates) checked 0 templates all
    × (text ≡ flat_map finding_lines (map found_view all))

-- .. in the templates of files, of which at most so many faults each are known
abbrev pub HasFindings : ℕ → ℕ → List AskedFile → List ℕ → Type 0
HasFindings checked faults files text =
    (templates : List Template) × AreReadFrom faults files templates × AreFindings checked templates text

-- the array of the components that templates define, each with a call that can be copied, in the order of the list
abbrev pub AreComponents : List Template → List ℕ → Type 0
AreComponents templates text =
    (components : List Component)
    × IsPermutation (map listed (defined_by 0 templates)) (map listed_view components)
    × IsInOrder (map listed_view components) × All IsOffered components
    × (text ≡ pretty (catalogue_tokens components) ++ 10 ∷ [])

abbrev pub HasComponents : List AskedFile → List ℕ → Type 0
HasComponents files text = (templates : List Template) × AreReadFrom 0 files templates × AreComponents templates text

-- what a buffer held and holds after a call that asks for a text of files, and what is needed: the text was put there, or
-- left out for want of room; or a file cannot be read, or an allocation failed
abbrev pub WritesOf : (List AskedFile → List ℕ → Type 0) → List AskedFile → Status → List ℕ → List ℕ → ℕ → Type 0
WritesOf HasText files status old new needed =
    ((text : List ℕ) × HasText files text × IsPut text status old new needed)
    ⊎ (IsUnread files status × IsLeft old new needed)

abbrev pub WritesFindings : ℕ → ℕ → List AskedFile → Status → List ℕ → List ℕ → ℕ → Type 0
WritesFindings checked faults = WritesOf (HasFindings checked faults)

abbrev pub WritesComponents : List AskedFile → Status → List ℕ → List ℕ → ℕ → Type 0
WritesComponents = WritesOf HasComponents
