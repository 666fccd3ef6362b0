-- What the words of the command line ask for.
use Rattle.std.specs.Prelude.{◌&&◌, ◌∷◌, [], ℕ, List, Bool, false, not, Option, None, Some, option_map, unwrap_or, if◌then◌else◌, bytes_eq, codes}
use denote.Ref.{Bor}
use Rattle.std.specs.List.{list_any}
use Rattle.std.specs.Option.{option_or}
use Rattle.clap.specs.Words.{Row, first_of, all_of}
use Rattle.tera_findings.specs.declared.finding.Severity.{Severity}
use Rattle.tera_check.specs.declared.levels.Levels.{Levels}
use Rattle.tera_program_parts.specs.Views.{lists_view, sets_view}
use Rattle.tera_options.specs.declared.colours.Colours.{Colours}
use Rattle.tera_options.specs.declared.colours.Colours.TheVariants.{Auto, Always, Never}
use Rattle.tera_options.specs.declared.job.Check.{Check}
use Rattle.tera_options.specs.declared.job.Common.{Common}
use Rattle.tera_options.specs.declared.job.Components.{Components}
use Rattle.tera_program_parts.specs.declared.settings.Defaults.{Defaults}
use Rattle.tera_options.specs.declared.job.Form.{Form}
use Rattle.tera_options.specs.declared.job.Form.TheVariants as forms
use Rattle.tera_options.specs.declared.job.Format.{Format}
use Rattle.tera_options.specs.declared.job.Job.{Job}
use Rattle.tera_options.specs.declared.job.Job.TheVariants as jobs
use Rattle.tera_options.specs.declared.job.Mode.{Mode}
use Rattle.tera_options.specs.declared.job.Mode.TheVariants as modes
use Rattle.tera_options.specs.declared.job.Tree.{Tree}

-- ---- what a job represents

pub record CommonVal : Type 0 where
  pub extensions : Option (List (List ℕ))
  pub exclude : Option (List (List ℕ))
  pub stdin : List ℕ
  pub colours : Colours
  pub quiet : Bool
  pub config : Option (List ℕ)
  pub no_config : Bool

abbrev pub common_view : Common → CommonVal
common_view c = record {
  extensions = lists_view c.extensions;
  exclude = lists_view c.exclude;
  stdin = c.stdin.now;
  colours = c.colours;
  quiet = c.quiet;
  config = option_map (λ t. t.now) c.config;
  no_config = c.no_config;
}

-- the rules that are selected and ignored, and what rules are set to
pub record RulesVal : Type 0 where
  pub select : Option (List (List ℕ))
  pub ignore : Option (List (List ℕ))
  pub set : List (List ℕ × Option Severity)

abbrev pub rules_view : Levels → RulesVal
rules_view r = record { select = lists_view r.select; ignore = lists_view r.ignore; set = sets_view r.set }

pub data JobVal : Type 0 where
  Checks : Form → Option (List (List ℕ)) → Option (List ℕ) → List ℕ → RulesVal → Bool → Bool → Option (List ℕ) → Option (List (List ℕ)) → CommonVal → JobVal
  Shows : Bool → Bool → Option (List ℕ) → List ℕ → CommonVal → JobVal
  Lists : Bool → Option (List ℕ) → Option (List (List ℕ)) → CommonVal → JobVal
  LaysOut : Mode → Option (List ℕ) → Option (List (List ℕ)) → CommonVal → JobVal
  Explains : List ℕ → JobVal
  Serves : Option (List ℕ) → JobVal

abbrev pub check_view : Check → JobVal
check_view j =
    Checks j.form (lists_view j.library) (option_map (λ r. r.now) j.root) j.max_faults.now (rules_view j.rules) j.error_on_warnings j.fix (option_map (λ m. m.now) j.markers)
    (lists_view j.files) (common_view j.common)

abbrev pub tree_view : Tree → JobVal
tree_view j = Shows j.json j.faulty (option_map (λ m. m.now) j.markers) j.file.now (common_view j.common)

abbrev pub components_view : Components → JobVal
components_view j = Lists j.html (option_map (λ m. m.now) j.markers) (lists_view j.files) (common_view j.common)

abbrev pub format_view : Format → JobVal
format_view j = LaysOut j.mode (option_map (λ m. m.now) j.markers) (lists_view j.files) (common_view j.common)

abbrev pub job_view : Job → JobVal
job_view (jobs.Check j) = check_view j
job_view (jobs.Tree j) = tree_view j
job_view (jobs.Components j) = components_view j
job_view (jobs.Format j) = format_view j
job_view (jobs.Explain rule) = Explains rule.now
job_view (jobs.Server markers) = Serves (option_map (λ m. m.now) markers)

-- ---- what a file of settings says

abbrev pub text_view : Option (Bor (List ℕ)) → Option (List ℕ)
text_view = option_map (λ t. t.now)

-- options count before settings; no option leaves out a file or sets a rule
abbrev pub common_with : Defaults → CommonVal → CommonVal
common_with d c = record {
  extensions = option_or c.extensions (lists_view d.extensions);
  exclude = lists_view d.exclude;
  stdin = c.stdin;
  colours = c.colours;
  quiet = c.quiet;
  config = c.config;
  no_config = c.no_config;
}

abbrev pub rules_with : Defaults → RulesVal → RulesVal
rules_with d r = record { select = r.select; ignore = r.ignore; set = sets_view d.set }

-- A job with settings, which count for all that no option sets.
abbrev pub with_defaults : Defaults → JobVal → JobVal
with_defaults d (Checks form library root faults rules strict fix markers files common) =
    Checks form (option_or library (lists_view d.library)) (option_or root (text_view d.root)) faults (rules_with d rules) strict fix (option_or markers (text_view d.markers)) files (common_with d common)
with_defaults d (Shows json faulty markers file common) = Shows json faulty (option_or markers (text_view d.markers)) file common
with_defaults d (Lists html markers files common) = Lists html (option_or markers (text_view d.markers)) files (common_with d common)
with_defaults d (LaysOut mode markers files common) = LaysOut mode (option_or markers (text_view d.markers)) files (common_with d common)
with_defaults d (Explains rule) = Explains rule
with_defaults d (Serves markers) = Serves markers

-- ---- whether standard input has a name, and is not read

-- it has another name than its own, and is not among the files
abbrev pub is_unread : Common → List (Bor (List ℕ)) → Bool
is_unread c files = not (bytes_eq c.stdin.now (codes "-")) && not (list_any (λ file. bytes_eq file.now (codes "-")) files)

abbrev pub are_unread : Common → Option (Bor (List (Bor (List ℕ)))) → Bool
are_unread c None = false
are_unread c (Some files) = is_unread c files.now

abbrev pub names_unread_input : Job → Bool
names_unread_input (jobs.Check j) = are_unread j.common j.files
names_unread_input (jobs.Tree j) = is_unread j.common (j.file ∷ [])
names_unread_input (jobs.Components j) = are_unread j.common j.files
names_unread_input (jobs.Format j) = are_unread j.common j.files
names_unread_input (jobs.Explain rule) = false
names_unread_input (jobs.Server markers) = false

-- ---- the rows of a subcommand

-- whether there is a text, and it is this one
abbrev pub is_text : List ℕ → Option (List ℕ) → Bool
is_text word None = false
is_text word (Some text) = bytes_eq text word

-- whether a flag is given
abbrev pub is_set : List ℕ → List Row → Bool
is_set id rows = is_text (codes "true") (first_of id rows)

abbrev pub text_or : List ℕ → List ℕ → List Row → List ℕ
text_or default id rows = unwrap_or (first_of id rows) default

abbrev pub colours_of : Option (List ℕ) → Colours
colours_of word = if is_text (codes "always") word then Always else (if is_text (codes "never") word then Never else Auto)

abbrev pub form_of : Option (List ℕ) → Form
form_of word =
    if is_text (codes "concise") word then forms.Concise
    else (if is_text (codes "json") word then forms.Json
    else (if is_text (codes "github") word then forms.Github
    else (if is_text (codes "sarif") word then forms.Sarif else forms.Full)))

-- if both are asked for, the difference is shown
abbrev pub mode_of : List Row → Mode
mode_of rows =
    if is_set (codes "diff") rows then modes.Diff else (if is_set (codes "check") rows then modes.Check else modes.Write)

abbrev pub common_of : List Row → CommonVal
common_of rows = record {
  extensions = all_of (codes "extension") rows;
  exclude = None;
  stdin = text_or (codes "-") (codes "stdin-filename") rows;
  colours = colours_of (first_of (codes "color") rows);
  quiet = is_set (codes "quiet") rows;
  config = first_of (codes "config") rows;
  no_config = is_set (codes "no-config") rows;
}

-- the command line sets no rule
abbrev pub rules_of : List Row → RulesVal
rules_of rows = record { select = all_of (codes "select") rows; ignore = all_of (codes "ignore") rows; set = [] }

abbrev pub check_of : List Row → JobVal
check_of rows =
    Checks (form_of (first_of (codes "output-format") rows)) (all_of (codes "library") rows) (first_of (codes "root") rows) (text_or [] (codes "max-faults") rows)
    (rules_of rows) (is_set (codes "error-on-warnings") rows) (is_set (codes "fix") rows) (first_of (codes "markers") rows) (all_of (codes "files") rows) (common_of rows)

abbrev pub tree_of : List Row → JobVal
tree_of rows = Shows (is_set (codes "json") rows) (is_set (codes "faulty") rows) (first_of (codes "markers") rows) (text_or (codes "-") (codes "file") rows) (common_of rows)

abbrev pub components_of : List Row → JobVal
components_of rows =
    Lists (is_text (codes "html") (first_of (codes "output-format") rows)) (first_of (codes "markers") rows)
    (all_of (codes "files") rows) (common_of rows)

abbrev pub format_of : List Row → JobVal
format_of rows = LaysOut (mode_of rows) (first_of (codes "markers") rows) (all_of (codes "files") rows) (common_of rows)

-- what a subcommand with these rows asks for
abbrev pub job_of : List ℕ × List Row → Option JobVal
job_of (name, rows) =
    if bytes_eq name (codes "check") then Some (check_of rows)
    else (if bytes_eq name (codes "tree") then Some (tree_of rows)
    else (if bytes_eq name (codes "components") then Some (components_of rows)
    else (if bytes_eq name (codes "format") then Some (format_of rows)
    else (if bytes_eq name (codes "explain") then Some (Explains (text_or [] (codes "rule") rows))
    else (if bytes_eq name (codes "server") then Some (Serves (first_of (codes "markers") rows)) else None)))))
