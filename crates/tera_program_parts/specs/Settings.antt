-- What a file of settings says.
use denote.Ref.{Bor}
use Rattle.std.specs.Prelude.{◌≡◌, ℕ, List, [], ◌++◌, Option, None, Some, codes, map, option_map, string_bytes, unwrap_or, Vec}
use Rattle.std.specs.Fmt.{decimal}
use Rattle.std.specs.declared.alloc.Global.{Global}
use Rattle.tera_files.specs.Names.{texts}
use Rattle.settings_files.specs.declared.unfit.WrongFile.{WrongFile}
use Rattle.tera_rules.specs.Registered.{AreListed, RegisteredVal}
use Rattle.tera_findings.specs.declared.finding.Severity.{Severity}
use Rattle.tera_findings.specs.declared.finding.Severity.TheVariants as severities
use Rattle.tera_settings.specs.declared.settings.Known.{Known}
use Rattle.tera_settings.specs.declared.settings.Level.{Level}
use Rattle.tera_settings.specs.declared.settings.Level.TheVariants as levels
use Rattle.tera_settings.specs.declared.settings.RuleLevel.{RuleLevel}
use Rattle.tera_settings.specs.Values.{text_view, texts_view}
use Rattle.tera_program_parts.specs.Views.{lists_view, set_view, sets_view}
use Rattle.tera_program_parts.specs.declared.settings.Defaults.{Defaults}
use Rattle.tera_program_parts.specs.declared.settings.Site.{Site}
use Rattle.tera_program_parts.specs.declared.settings.Words.{Words}

-- ---- what a file says, in the forms in which a job gets it

pub record SiteVal : Type 0 where
  pub root : Option (List ℕ)
  pub extensions : Option (List (List ℕ))
  pub exclude : Option (List (List ℕ))
  pub library : Option (List (List ℕ))
  pub markers : Option (List ℕ)
  pub set : List (List ℕ × Option Severity)

-- what a rule is set to: none if it is off
abbrev pub severity_at : Level → Option Severity
severity_at levels.Off = None
severity_at levels.Warning = Some severities.Warning
severity_at levels.Error = Some severities.Error

abbrev pub set_of : RuleLevel → List ℕ × Option Severity
set_of rule = (string_bytes rule.rule, severity_at rule.level)

abbrev pub site_val : Site → SiteVal
site_val s = record {
  root = text_view s.root;
  extensions = texts_view s.extensions;
  exclude = texts_view s.exclude;
  library = texts_view s.library;
  markers = text_view s.markers;
  set = map set_of s.rules.items;
}

abbrev pub words_view : Option (Vec (Bor (List ℕ)) Global) → Option (List (List ℕ))
words_view = option_map (λ v. texts v.items)

abbrev pub words_val : Words → SiteVal
words_val w = record {
  root = option_map (λ t. t.now) w.root;
  extensions = words_view w.extensions;
  exclude = words_view w.exclude;
  library = words_view w.library;
  markers = option_map (λ t. t.now) w.markers;
  set = map set_view w.set.items;
}

abbrev pub defaults_val : Defaults → SiteVal
defaults_val d = record {
  root = option_map (λ t. t.now) d.root;
  extensions = lists_view d.extensions;
  exclude = lists_view d.exclude;
  library = lists_view d.library;
  markers = option_map (λ t. t.now) d.markers;
  set = sets_view d.set;
}

-- what the lists of the names that a program registers say, if there is one
abbrev pub AreRegistered : Known → Option RegisteredVal → Type 0
AreRegistered known None = (known.filters ≡ None) × (known.tests ≡ None) × (known.functions ≡ None)
AreRegistered known (Some r) = AreListed (texts_view known.filters) (texts_view known.tests) (texts_view known.functions) r

-- some texts; none if they are not given
abbrev pub or_none : Option (List (List ℕ)) → List (List ℕ)
or_none given = unwrap_or given []

-- the place where something is wrong in a file of settings
abbrev pub place_text : WrongFile → List ℕ
place_text wrong = string_bytes wrong.file ++ (codes ":" ++ (decimal wrong.line ++ (codes ":" ++ decimal wrong.column)))
