-- Suggestions for findings, if the form has them.
use Rattle.std.specs.Prelude.{◌≡◌, ℕ, List, [], Option, None, Some, String, Vec, length, map, slice_get, string_bytes}
use Rattle.std.specs.declared.alloc.Global.{Global}
use Rattle.std.specs.BTreeMap.{BTreeMap}
use Rattle.std.specs.Option.{option_and_then, option_map}
use Rattle.tera_check.specs.Found.{known_by}
use Rattle.tera_check.specs.Named.{known_in}
use Rattle.tera_rules.specs.declared.known.Known.{Known}
use Rattle.tera_check.specs.declared.found.Found.{Found}
use Rattle.tera_templates.specs.declared.templates.Template.{Template}
use Rattle.tera_files.specs.declared.reading.Source.{Source}
use Rattle.tera_fixes.specs.All.{AreSuggestedIn}
use Rattle.tera_fixes.specs.Suggestions.{suggestion_view}
use Rattle.tera_fixes.specs.declared.suggestions.Suggestion.{Suggestion}
use Rattle.tera_options.specs.declared.job.Form.{Form}
use Rattle.tera_options.specs.declared.job.Form.TheVariants as forms

-- the suggestions for some findings
abbrev pub Help : Type 0
Help = Vec (Option Suggestion) Global

-- the title of a suggestion; and of the one for the finding of a number in the template of a number
abbrev pub title_in : Option Suggestion → Option (List ℕ)
title_in = option_map (λ s. string_bytes s.title)

abbrev pub help_in : List Help → ℕ → ℕ → Option (List ℕ)
help_in helps number at =
    option_and_then (λ (help : Help). option_and_then title_in (slice_get help.items at)) (slice_get helps number)

-- the suggestions for the findings in a template with its source, by these components
abbrev pub IsHelpOf : BTreeMap (String Global) Known → Option Template → Option Source → Found → Help → Type 0
IsHelpOf catalogue (Some t) (Some s) found help =
    AreSuggestedIn catalogue t (string_bytes s.text) found.findings.items (map (option_map suggestion_view) help.items)
IsHelpOf catalogue _ _ found help = help.items ≡ []

-- .. in each of the templates
pub record AreHelpsIn (templates : List Template) (sources : List Source) (all : List Found) (helps : List Help) : Type 0 where
  pub catalogue : BTreeMap (String Global) Known
  pub known : (n : List ℕ) → known_in catalogue n ≡ known_by templates n
  pub each : length helps ≡ length all
  pub are : (i : ℕ) (found : Found) (help : Help) → slice_get all i ≡ Some found → slice_get helps i ≡ Some help
      → IsHelpOf catalogue (slice_get templates i) (slice_get sources i) found help

-- .. if the form has them
abbrev pub AreHelps : Form → List Template → List Source → List Found → List Help → Type 0
AreHelps forms.Full templates sources all helps = AreHelpsIn templates sources all helps
AreHelps _ templates sources all helps = helps ≡ []
