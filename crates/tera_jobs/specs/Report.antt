-- What is reported for templates, and how the program ends.
use Rattle.std.specs.Prelude.{◌≡◌, ◌<◌, ◌&&◌, ◌||◌, ℕ, List, Bool, true, false, nat_eq, nat_lt, map, length, take, Option, None, Some, is_some, Result, Ok, Err, MatchResult, vec_len}
use Rattle.std.specs.declared.alloc.AllocError.{AllocError}
use Rattle.std.specs.Io.KnownBytes.{Appends, Keeps}
use Rattle.std.specs.List.{list_any}
use Rattle.std.specs.declared.io.Error.{Error}
use Rattle.tera_check.specs.Levels.{AreReportedOf}
use Rattle.tera_rules.specs.Registered.{RegisteredVal}
use Rattle.tera_check.specs.Unknown.{AreWithUnknown}
use Rattle.tera_check.specs.UnusedComponents.{AreWithUnusedComponents}
use Rattle.tera_findings.specs.declared.finding.Kind.{Kind}
use Rattle.tera_findings.specs.declared.finding.Kind.TheVariants as kinds
use Rattle.tera_findings.specs.declared.finding.Severity.{Severity}
use Rattle.tera_templates.specs.declared.templates.Template.{Template}
use Rattle.terminal_text.specs.declared.style.Style.{Style}
use Rattle.tera_files.specs.declared.reading.Source.{Source}
use Rattle.tera_jobs.specs.Forms.{text_of}
use Rattle.tera_jobs.specs.Helps.{AreHelps, Help, help_in}
use Rattle.tera_templates.specs.Lost.{are_open}
use Rattle.tera_check.specs.Found.{AreFound, found_view, known_by}
use Rattle.tera_jobs.specs.Found.{count_in, faulty_in, is_wrong}
use Rattle.tera_jobs.specs.Sources.{Known, UnreadVal, nothing, unreadable_view, with_sources}
use Rattle.tera_jobs.specs.declared.counting.Checked.{Checked}
use Rattle.tera_check.specs.declared.found.Found.{Found}
use Rattle.tera_options.specs.declared.job.Form.{Form}
use Rattle.tera_jobs.specs.declared.reading.Templates.{Templates}
use Rattle.tera_program_parts.specs.declared.status.Ended.{Ended}
use Rattle.tera_jobs.specs.declared.reporting.Report.{Report}
use Rattle.tera_site.specs.Found.{AddsNames}
use Rattle.tera_site.specs.declared.found.SiteNames.{SiteNames}

-- a writer took the whole text, or a part from its beginning on if it stopped
abbrev pub Takes : Option (List ℕ) → Option (List ℕ) → List ℕ → Option Error → Type 0
Takes old new text None = Appends old new text
Takes old new text (Some error) = (n : ℕ) × (n < length text) × Appends old new (take n text)

-- what is found of names is added, if they are known
abbrev pub AreWithNames : Option SiteNames → List Template → ℕ → List Found → List Found → Type 0
AreWithNames None templates checked found all = all ≡ found
AreWithNames (Some names) templates checked found all = AddsNames names templates checked found all

-- what the program does not register is added, if it is known what it registers
abbrev pub AreWithUnknownIf : Option RegisteredVal → List Template → ℕ → List Found → List Found → Type 0
AreWithUnknownIf None templates checked found all = all ≡ found
AreWithUnknownIf (Some r) templates checked found all = AreWithUnknown r templates checked found all

-- the components that no template calls are added, if that is asked for
abbrev pub AreWithUnusedIf : Bool → List Template → ℕ → List Found → List Found → Type 0
AreWithUnusedIf false templates checked found all = all ≡ found
AreWithUnusedIf true templates checked found all = AreWithUnusedComponents templates checked found all

-- Components that no template calls are looked for if their rule is on, and all files could be read. A file that could
-- not be read may call any.
abbrev pub looks_for_unused : List UnreadVal → (Kind → Option Severity) → Bool
looks_for_unused unread level = nat_eq (length unread) 0 && is_some (level kinds.UnusedComponent)

-- all that is found in the templates by rules that are not off, if these files could not be read
pub record AreAllFound (unread : List UnreadVal) (templates : List Template) (names : Option SiteNames) (registered : Option RegisteredVal) (checked : ℕ) (level : Kind → Option Severity) (all : List Found) : Type 0 where
  pub found : List Found
  pub are : AreFound (known_by templates) (are_open templates) checked 0 templates found
  pub named : List Found
  pub with_names : AreWithNames names templates checked found named
  pub more : List Found
  pub with_unknown : AreWithUnknownIf registered templates checked named more
  pub with_unused : AreWithUnusedIf (looks_for_unused unread level) templates checked more all

-- what could not be read, and what was found in the templates and is to be reported, was written whole, or a part of it
-- from the beginning on, and counted
pub record IsReported (form : Form) (style : Style) (known : Known) (unread : List UnreadVal) (templates : List Template) (sources : List Source) (names : Option SiteNames) (registered : Option RegisteredVal) (checked : ℕ) (level : Kind → Option Severity) (old new : Option (List ℕ)) (report : Report) : Type 0 where
  pub found : List Found
  pub are : AreAllFound unread templates names registered checked level found
  pub all : List Found
  pub reported : AreReportedOf level found all
  pub helps : List Help
  pub helped : AreHelps form templates sources all helps
  pub written : Takes old new (text_of form style known (help_in helps) unread (map found_view all)) report.stopped
  pub errors : report.errors ≡ list_any is_wrong all
  pub findings : report.findings ≡ count_in all
  pub faulty : report.faulty ≡ faulty_in all

-- what the summary line counts: the findings that were written, and the files that were read
abbrev pub counts_of : Templates → Report → Checked
counts_of all report = record { files = all.checked; findings = report.findings; faulty = report.faulty; unread = vec_len all.unread }

-- how the program ends if so many files could not be read: something is found if there is an error or, if that is asked
-- for, a warning
abbrev pub ended_of : Result Report AllocError → Bool → ℕ → Ended
ended_of (Ok report) strict unread =
    record { found = report.errors || (strict && nat_lt 0 report.findings); failed = nat_lt 0 unread || is_some report.stopped }
ended_of (Err error) strict unread = record { found = false; failed = true }

-- what was found in the templates was reported, and the program ends according to that and the files that could not be
-- read; or an allocation failed, and nothing was written
pub record IsChecked (form : Form) (style : Style) (registered : Option RegisteredVal) (level : Kind → Option Severity) (strict : Bool) (all : Templates) (old new : Option (List ℕ)) (ended : Ended) : Type 0 where
  pub report : Result Report AllocError
  pub written : MatchResult report
      (IsReported form style (with_sources nothing all.sources.items) (map unreadable_view all.unread.items) all.templates.items all.sources.items
      all.names registered all.checked level old new)
      (λ _. Keeps old new)
  pub ends : ended ≡ ended_of report strict (vec_len all.unread)
