-- What is found of names, added to what else is found in the templates.
use Rattle.std.specs.Prelude.{◌≡◌, ◌≢◌, ◌⊎◌, ◌<◌, ◌≤◌, ◌++◌, ℕ, List, Bool, true, false, map, length, Option, None, Some, slice_get, slice_index_or}
use Rattle.std.specs.BTreeSet.{contains_text}
use Rattle.std.specs.List.Sorted.{IsPermutation}
use Rattle.std.specs.Option.{is_some}
use Rattle.tera_ast.specs.View.{name_view}
use Rattle.tera_findings.specs.Findings.{finding_view}
use Rattle.tera_check.specs.OrderAndStatus.{IsInOrder}
use Rattle.tera_check.specs.declared.found.Found.{Found}
use Rattle.tera_templates.specs.declared.templates.Template.{Template}
use Rattle.tera_site.specs.Named.{due_names}
use Rattle.tera_site.specs.Sites.{AroundVal, IsSite}
use Rattle.tera_site.specs.declared.found.SiteNames.{SiteNames}

-- what is found in a file is what was found before, and what is found of the names that the template has, in the order
-- of the places
pub record IsWith (a : AroundVal) (t : Template) (old new : Found) : Type 0 where
  pub file : new.file ≡ old.file
  pub in_order : IsInOrder new.findings.items
  pub found : IsPermutation (map finding_view old.findings.items ++ due_names a t) (map finding_view new.findings.items)

-- this holds of the template of a number, and what is found in all others stays
pub record AddsAt (a : AroundVal) (ts : List Template) (number : ℕ) (old new : List Found) : Type 0 where
  pub each : length new ≡ length old
  pub here : (t : Template) (f g : Found) → slice_get ts number ≡ Some t → slice_get old number ≡ Some f → slice_get new number ≡ Some g → IsWith a t f g
  pub others : (n : ℕ) → n ≢ number → slice_get new n ≡ slice_get old n

-- the template of a number is in the site
abbrev pub is_named : SiteNames → ℕ → Bool
is_named names number = is_some (slice_index_or names.names.items number None)

-- .. if it is in the site
abbrev pub AddsIf : Bool → AroundVal → List Template → ℕ → List Found → List Found → Type 0
AddsIf true a ts number old new = AddsAt a ts number old new
AddsIf false a ts number old new = new ≡ old

-- this holds of each of the first templates that is in the site, by what is around it
pub record AreAdded (around : ℕ → AroundVal) (names : SiteNames) (ts : List Template) (checked : ℕ) (old new : List Found) : Type 0 where
  pub each : length new ≡ length old
  pub added : (n : ℕ) (t : Template) (f g : Found) → n < checked → is_named names n ≡ true
      → slice_get ts n ≡ Some t → slice_get old n ≡ Some f → slice_get new n ≡ Some g → IsWith (around n) t f g
  pub others : (n : ℕ) → (checked ≤ n) ⊎ (is_named names n ≡ false) → slice_get new n ≡ slice_get old n

-- what is found of names is added, by what is around each template in the site of these names
abbrev pub AddsNames : SiteNames → List Template → ℕ → List Found → List Found → Type 0
AddsNames names ts checked old new =
    (around : ℕ → AroundVal) × IsSite (map name_view names.names.items) (contains_text names.others) ts around
    × AreAdded around names ts checked old new
