-- What is added to what is found in templates.
use Rattle.std.specs.Prelude.{◌≡◌, ◌≢◌, ◌<◌, ◌≤◌, ◌++◌, ℕ, List, Some, length, map, slice_get}
use Rattle.std.specs.List.Sorted.{IsPermutation}
use Rattle.tera_findings.specs.Findings.{FindingVal, finding_view}
use Rattle.tera_check.specs.OrderAndStatus.{IsInOrder}
use Rattle.tera_check.specs.declared.found.Found.{Found}
use Rattle.tera_templates.specs.declared.templates.Template.{Template}

-- what is found in a template is what was found before, and more, in the order of the places
pub record IsWith (more : List FindingVal) (old new : Found) : Type 0 where
  pub file : new.file ≡ old.file
  pub in_order : IsInOrder new.findings.items
  pub found : IsPermutation (map finding_view old.findings.items ++ more) (map finding_view new.findings.items)

-- this holds of the template of a number, and what is found in all others stays
pub record IsAddedAt (due : Template → List FindingVal) (ts : List Template) (number : ℕ) (old new : List Found) : Type 0 where
  pub each : length new ≡ length old
  pub here : (t : Template) (f g : Found) → slice_get ts number ≡ Some t → slice_get old number ≡ Some f → slice_get new number ≡ Some g → IsWith (due t) f g
  pub others : (n : ℕ) → n ≢ number → slice_get new n ≡ slice_get old n

-- this holds of each of the first templates, and what is found in the others stays
pub record AreAdded (due : Template → List FindingVal) (ts : List Template) (checked : ℕ) (old new : List Found) : Type 0 where
  pub each : length new ≡ length old
  pub added : (n : ℕ) (t : Template) (f g : Found) → n < checked
      → slice_get ts n ≡ Some t → slice_get old n ≡ Some f → slice_get new n ≡ Some g → IsWith (due t) f g
  pub others : (n : ℕ) → checked ≤ n → slice_get new n ≡ slice_get old n
