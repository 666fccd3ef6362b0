-- Whether a template is better than it was.
use Rattle.std.specs.Prelude.{◌≡◌, ◌-◌, ℕ, List, Bool, true, false, ◌&&◌, Option, None, Some, bytes_eq, length, nat_lt, string_bytes}
use Rattle.std.specs.List.{list_all, list_any}
use Rattle.std.specs.Result.{is_ok}
use Rattle.tera_check.specs.Found.{IsAllOf}
use Rattle.tera_rules.specs.Judged.{KnownVal}
use Rattle.tera_findings.specs.declared.finding.Finding.{Finding}
use Rattle.tera_templates.specs.declared.templates.Template.{Template}

-- one of the findings has the message
abbrev pub has_message : List Finding → List ℕ → Bool
has_message findings text = list_any (λ f. bytes_eq (string_bytes f.message) text) findings

abbrev pub was_found : List Finding → Finding → Bool
was_found before f = has_message before (string_bytes f.message)

-- there are fewer findings than before, and each has the message of one before
abbrev pub are_better : List Finding → List Finding → Bool
are_better before after = nat_lt (length after) (length before) && list_all (was_found before) after

-- the template has a tree, and its findings are better than before: so many fewer
pub record HasFewer (known : List ℕ → Option KnownVal) (open_text : Bool) (number : ℕ) (t : Template) (before : List Finding) (fewer : ℕ) : Type 0 where
  pub tree : is_ok t.parsed ≡ true
  pub after : List Finding
  pub are : IsAllOf known open_text number t after
  pub better : are_better before after ≡ true
  pub count : fewer ≡ length before - length after

-- if it has a tree, its findings are not better
abbrev pub HasNoFewer : (List ℕ → Option KnownVal) → Bool → ℕ → Template → List Finding → Type 0
HasNoFewer known open_text number t before =
    is_ok t.parsed ≡ true → (after : List Finding) × IsAllOf known open_text number t after × (are_better before after ≡ false)

abbrev pub IsBetter : (List ℕ → Option KnownVal) → Bool → ℕ → Template → List Finding → Option ℕ → Type 0
IsBetter known open_text number t before None = HasNoFewer known open_text number t before
IsBetter known open_text number t before (Some fewer) = HasFewer known open_text number t before fewer
