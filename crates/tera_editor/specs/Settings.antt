-- What settings say of the templates below folders.
use Rattle.std.specs.Prelude.{◌≡◌, ◌||◌, ◌==◌, ℕ, List, [], length, Bool, false, not, cond, if◌then◌else◌, map, String, string_bytes, is_some, unwrap_or, Option, None, Some, Vec}
use Rattle.std.specs.BTreeMap.{get_by_text}
use Rattle.std.specs.List.{filter_map, find, list_any}
use Rattle.std.specs.Option.{option_and_then, option_map, option_map_or}
use Rattle.std.specs.Str.{bytes_eq}
use Rattle.std.specs.declared.alloc.Global.{Global}
use Rattle.tera_findings.specs.Findings.{default_level, kind_name, severity_of}
use Rattle.tera_check.specs.Levels.{is_fault}
use Rattle.tera_lexer.specs.grammar.Marks.{Marks}
use Rattle.tera_rules.specs.Registered.{is_listed, RegisteredVal as ByLists}
use Rattle.tera_findings.specs.declared.finding.Kind.{Kind}
use Rattle.tera_findings.specs.declared.finding.Severity.{Severity}
use Rattle.tera_check.specs.declared.levels.RuleLevel.{RuleLevel}
use Rattle.tera_workspace.specs.Diagnostics.{DiagnosticVal}
use Rattle.tera_editor.specs.Templates.{is_inside}
use Rattle.tera_editor.specs.declared.settings.FolderSettings.{FolderSettings}
use Rattle.tera_editor.specs.declared.settings.RegisteredNames.{RegisteredNames}
use Rattle.tera_editor.specs.declared.settings.Reported.{Reported}
use Rattle.tera_editor.specs.declared.settings.Reported.TheVariants as reported_as
use Rattle.tera_editor.specs.declared.settings.RuleSetting.{RuleSetting}
use Rattle.tera_editor.specs.declared.settings.Settings.{Settings}

-- the name of a rule, and what it is set to: a severity, or none if it is off
abbrev pub RuleVal : Type 0
RuleVal = List ℕ × Option Severity

abbrev pub rule_view : RuleSetting → RuleVal
rule_view r = (string_bytes r.rule, r.level)

-- .. in the form of `tera check`
abbrev pub level_view : RuleLevel → RuleVal
level_view r = (r.rule.now, r.level)

-- how the names of templates end, if not as usual; what is left out; libraries; the markers of templates, if they are
-- not the usual ones; what rules are set to; the root of the names of templates, if there is one; and the names of
-- filters, tests and functions that the program registers, as far as they are known
pub record SettingsVal : Type 0 where
  pub extensions : Option (List (List ℕ))
  pub exclude : List (List (List ℕ))
  pub libraries : List (List ℕ)
  pub markers : Option Marks
  pub rules : List RuleVal
  pub root : Option (List ℕ)
  pub filters : Option (List (List ℕ))
  pub tests : Option (List (List ℕ))
  pub functions : Option (List (List ℕ))

abbrev pub list_in : Option (Vec (String Global) Global) → Option (List (List ℕ))
list_in = option_map (λ v. map string_bytes v.items)

abbrev pub names_in : Option (Vec (String Global) Global) → List (List ℕ)
names_in list = unwrap_or (list_in list) []

abbrev pub settings_view : FolderSettings → SettingsVal
settings_view s = record {
  extensions = option_map (λ v. map string_bytes v.items) s.extensions;
  exclude = map (λ v. map string_bytes v.items) s.exclude.keys;
  libraries = map string_bytes s.libraries.items;
  markers = s.markers;
  rules = map rule_view s.rules.items;
  root = option_map string_bytes s.root;
  filters = list_in s.filters;
  tests = list_in s.tests;
  functions = list_in s.functions;
}

-- the settings of a folder, and the file that they come from
abbrev pub settings_in : Settings → List ℕ → Option SettingsVal
settings_in s folder = option_map settings_view (get_by_text s.of_folders folder)

abbrev pub file_in : Settings → List ℕ → Option (List ℕ)
file_in s folder = option_map string_bytes (get_by_text s.files folder)

abbrev pub libraries_in : Option SettingsVal → List (List ℕ)
libraries_in None = []
libraries_in (Some settings) = settings.libraries

-- the settings of a folder are these, or none, and nothing else changes; and the same for its file
abbrev pub IsSetAt : List ℕ → Option SettingsVal → Settings → Settings → Type 0
IsSetAt folder settings old now = (f : List ℕ) → settings_in now f ≡ cond (bytes_eq folder f) settings (settings_in old f)

abbrev pub IsFileAt : List ℕ → Option (List ℕ) → Settings → Settings → Type 0
IsFileAt folder file old now = (f : List ℕ) → file_in now f ≡ cond (bytes_eq folder f) file (file_in old f)

-- the first of the folders that is the path, or contains it
abbrev pub holds : List ℕ → List ℕ → Bool
holds folder path = bytes_eq folder path || is_inside folder path

abbrev pub folder_of : List (List ℕ) → List ℕ → Option (List ℕ)
folder_of folders path = find (λ f. holds f path) folders

-- the settings for a path
abbrev pub settings_for : Settings → List (List ℕ) → List ℕ → Option SettingsVal
settings_for s folders path = option_and_then (settings_in s) (folder_of folders path)

-- the markers of a file, if they are not the usual ones: those that are given, or else those by the settings for it
abbrev pub markers_in : Option SettingsVal → Option Marks
markers_in None = None
markers_in (Some settings) = settings.markers

abbrev pub markers_by : Option (Option Marks) → Option SettingsVal → Option Marks
markers_by None settings = markers_in settings
markers_by (Some markers) settings = markers

abbrev pub markers_for : Settings → List (List ℕ) → List ℕ → Option Marks
markers_for s folders file = markers_by s.markers (settings_for s folders file)

-- the names that the program registers, by the settings for a file
pub record RegisteredVal : Type 0 where
  pub filters : List (List ℕ)
  pub tests : List (List ℕ)
  pub functions : List (List ℕ)

abbrev pub registered_view : RegisteredNames → RegisteredVal
registered_view r = record { filters = map string_bytes r.filters.now; tests = map string_bytes r.tests.now; functions = map string_bytes r.functions.now }

abbrev pub registered_by : Option SettingsVal → RegisteredVal
registered_by None = record { filters = []; tests = []; functions = [] }
registered_by (Some settings) = record { filters = unwrap_or settings.filters []; tests = unwrap_or settings.tests []; functions = unwrap_or settings.functions [] }

abbrev pub registered_for : Settings → List (List ℕ) → List ℕ → RegisteredVal
registered_for s folders file = registered_by (settings_for s folders file)

-- names that the program registers are listed
abbrev pub has_list : SettingsVal → Bool
has_list settings = is_some settings.filters || is_some settings.tests || is_some settings.functions

-- something else is found by them than is reported without: they list some, names of templates are known, or templates
-- have other markers
abbrev pub finds_more : SettingsVal → Bool
finds_more settings = (has_list settings || is_some settings.root) || is_some settings.markers

abbrev pub finds_more_if_any : Option SettingsVal → Bool
finds_more_if_any None = false
finds_more_if_any (Some settings) = finds_more settings

-- other findings are reported by them than without: more is found, or rules are set
abbrev pub reports_others : Option SettingsVal → Bool
reports_others None = false
reports_others (Some settings) = finds_more settings || not (length settings.rules == 0)

-- .. more is found in a file
abbrev pub finds_more_in_file : Settings → List (List ℕ) → List ℕ → Bool
finds_more_in_file s folders file = is_some (markers_for s folders file) || finds_more_if_any (settings_for s folders file)

abbrev pub if_listing : SettingsVal → Option SettingsVal
if_listing settings = if has_list settings then Some settings else None

-- the settings for a file, if they list registered names
abbrev pub listing_for : Settings → List (List ℕ) → List ℕ → Option SettingsVal
listing_for s folders file = option_and_then if_listing (settings_for s folders file)

-- what the program registers, by lists: what is listed; if a list is absent, anything
abbrev pub registered_in : SettingsVal → ByLists
registered_in settings = record { filters = is_listed settings.filters; tests = is_listed settings.tests; functions = is_listed settings.functions }

-- a file is in a library of some folder
abbrev pub has_library : List ℕ → String Global × FolderSettings → Bool
has_library file (folder, s) = is_some (folder_of (map string_bytes s.libraries.items) file)

abbrev pub is_in_library : Settings → List ℕ → Bool
is_in_library s file = list_any (has_library file) s.of_folders.entries

-- what is reported of a file, of what is found between the usual markers: all that is on if rules are set so, only
-- faults, or nothing
pub data Shown : Type 0 where
  ByRules : List RuleVal → Shown
  FaultsAlone : Shown
  NoFindings : Shown

abbrev pub reported_view : Reported → Shown
reported_view (reported_as.By rules) = ByRules (map rule_view rules.now)
reported_view reported_as.Faults = FaultsAlone
reported_view reported_as.Nothing = NoFindings

-- for a folder, by its settings
abbrev pub reported_in : Option SettingsVal → Shown
reported_in None = ByRules []
reported_in (Some settings) = ByRules settings.rules

-- .. and for a file outside of the folders: only faults, if it is in a library
abbrev pub reported_by : Settings → List ℕ → Option (List ℕ) → Shown
reported_by s file (Some folder) = reported_in (settings_in s folder)
reported_by s file None = if is_in_library s file then FaultsAlone else ByRules []

-- .. and for a file with other markers: nothing
abbrev pub reported_for : Settings → List (List ℕ) → List ℕ → Shown
reported_for s folders file = if is_some (markers_for s folders file) then NoFindings else reported_by s file (folder_of folders file)

-- the level of a kind if rules are set so: none if it is off; its default level, if nothing is set
abbrev pub level_in : List RuleVal → Kind → Option Severity
level_in rules kind = option_map_or (λ r. r.1) (find (λ r. bytes_eq r.0 (kind_name kind)) rules) (default_level kind)

abbrev pub set_level : Shown → Kind → Option Severity
set_level (ByRules rules) kind = level_in rules kind
set_level FaultsAlone kind = None
set_level NoFindings kind = None

-- faults are always errors, and reported if anything is
abbrev pub fault_level : Shown → Kind → Option Severity
fault_level (ByRules rules) kind = Some (severity_of kind)
fault_level FaultsAlone kind = Some (severity_of kind)
fault_level NoFindings kind = None

abbrev pub level_by : Shown → Kind → Option Severity
level_by shown kind = if is_fault kind then fault_level shown kind else set_level shown kind

abbrev pub is_on : Shown → Kind → Bool
is_on shown kind = is_some (level_by shown kind)

-- a finding as it is reported: with the severity that its kind has; none if it is off
abbrev pub shown_as : Shown → DiagnosticVal → Option DiagnosticVal
shown_as shown d = option_map (λ severity. record d { severity = severity }) (level_by shown d.kind)

abbrev pub shown_in : Shown → List DiagnosticVal → List DiagnosticVal
shown_in shown ds = filter_map (shown_as shown) ds
