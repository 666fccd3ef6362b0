-- What the findings of each rule count for, and which are reported.
use denote.Ref.{Bor}
use Rattle.std.specs.Prelude.{◌≡◌, ℕ, List, Bool, true, false, Option, None, Some, bytes_eq, filter, find, if◌then◌else◌, is_some, map, unwrap_or}
use Rattle.std.specs.List.{list_any}
use Rattle.std.specs.Option.{option_map_or}
use Rattle.tera_findings.specs.Findings.{kind_name, severity_of, default_level}
use Rattle.tera_findings.specs.declared.finding.Finding.{Finding}
use Rattle.tera_findings.specs.declared.finding.Kind.{Kind}
use Rattle.tera_findings.specs.declared.finding.Kind.TheVariants as kinds
use Rattle.tera_findings.specs.declared.finding.Severity.{Severity}
use Rattle.tera_check.specs.declared.found.Found.{Found}
use Rattle.tera_check.specs.declared.levels.Levels.{Levels}
use Rattle.tera_check.specs.declared.levels.RuleLevel.{RuleLevel}

-- whether the rule of a kind is among these
abbrev pub has_rule : List (Bor (List ℕ)) → Kind → Bool
has_rule rules kind = list_any (λ rule. bytes_eq rule.now (kind_name kind)) rules

abbrev pub is_of : Kind → RuleLevel → Bool
is_of kind rule = bytes_eq rule.rule.now (kind_name kind)

-- what a kind counts for as its rule is set: none if that is off; its default level, if nothing is set
abbrev pub set_level : List RuleLevel → Kind → Option Severity
set_level set kind = option_map_or (λ rule. rule.level) (find (is_of kind) set) (default_level kind)

-- If rules are selected, only these are on, whatever they are set to: one that is set to be off has the severity of its
-- kind.
abbrev pub selected_by : List (Bor (List ℕ)) → Kind → Option Severity → Option Severity
selected_by rules kind set = if has_rule rules kind then Some (unwrap_or set (severity_of kind)) else None

abbrev pub selected : Levels → Kind → Option Severity
selected levels kind =
    option_map_or (λ rules. selected_by rules.now kind (set_level levels.set.now kind)) levels.select (set_level levels.set.now kind)

-- nothing is reported of the rules that are ignored
abbrev pub is_ignored : Levels → Kind → Bool
is_ignored levels kind = option_map_or (λ rules. has_rule rules.now kind) levels.ignore false

abbrev pub is_fault : Kind → Bool
is_fault kinds.Fault = true
is_fault _ = false

-- What a kind counts for, if it is not off. Faults are always errors.
abbrev pub level_of : Levels → Kind → Option Severity
level_of levels kind =
    if is_fault kind then Some (severity_of kind) else (if is_ignored levels kind then None else selected levels kind)

-- ---- what is reported

abbrev pub is_on : (Kind → Option Severity) → Finding → Bool
is_on level finding = is_some (level finding.kind)

-- a finding with the severity that its kind counts for
abbrev pub at_level : (Kind → Option Severity) → Finding → Finding
at_level level finding = record finding { severity = unwrap_or (level finding.kind) finding.severity }

-- the findings that are not off, in their order
abbrev pub reported : (Kind → Option Severity) → List Finding → List Finding
reported level findings = map (at_level level) (filter (is_on level) findings)

-- the name of a file, and what is found in it
abbrev pub in_file : Found → List ℕ × List Finding
in_file found = (found.file.now, found.findings.items)

-- and what of it is reported
abbrev pub reported_in : (Kind → Option Severity) → List ℕ × List Finding → List ℕ × List Finding
reported_in level (file, findings) = (file, reported level findings)

-- what is reported in each file, of what is found there
abbrev pub AreReportedOf : (Kind → Option Severity) → List Found → List Found → Type 0
AreReportedOf level found all = map in_file all ≡ map (reported_in level) (map in_file found)
