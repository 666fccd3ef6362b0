-- How many findings there are in templates, and whether there is an error.
use Rattle.std.specs.Prelude.{ℕ, ◌^◌, ◌-◌, min, List, Bool, true, false, nat_lt, length}
use Rattle.std.specs.List.{count_by, list_any, sum_by}
use Rattle.tera_findings.specs.declared.finding.Finding.{Finding}
use Rattle.tera_findings.specs.declared.finding.Severity.{Severity}
use Rattle.tera_findings.specs.declared.finding.Severity.TheVariants as severities
use Rattle.tera_check.specs.declared.found.Found.{Found}

abbrev pub is_faulty : Found → Bool
is_faulty found = nat_lt 0 (length found.findings.items)

-- whether there is an error
abbrev pub is_error : Severity → Bool
is_error severities.Error = true
is_error severities.Warning = false

abbrev pub is_of_error : Finding → Bool
is_of_error finding = is_error finding.severity

abbrev pub is_wrong : Found → Bool
is_wrong found = list_any is_of_error found.findings.items

-- how many findings there are, and in how many files, or the greatest `usize` if there are more
abbrev pub count_in : List Found → ℕ
count_in all = min (sum_by (λ found. length found.findings.items) all) (2 ^ 64 - 1)

abbrev pub faulty_in : List Found → ℕ
faulty_in all = min (count_by is_faulty all) (2 ^ 64 - 1)
