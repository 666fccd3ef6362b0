-- Corrected texts for the files of templates.
use Rattle.std.specs.Prelude.{◌≡◌, ◌&&◌, ℕ, List, Bool, true, false, filter, map, not, Option, String, is_some, string_bytes}
use Rattle.std.specs.BTreeMap.{BTreeMap}
use Rattle.std.specs.List.{flat_map}
use Rattle.std.specs.List.Sorted.{IsPermutation}
use Rattle.std.specs.declared.alloc.Global.{Global}
use Rattle.tera_lexer.specs.grammar.Marks.{Marks}
use Rattle.tera_check.specs.Found.{IsAllOf}
use Rattle.tera_check.specs.Levels.{level_of}
use Rattle.tera_check.specs.Named.{known_in}
use Rattle.tera_check.specs.Silenced.{is_undefined_kind}
use Rattle.tera_rules.specs.declared.known.Known.{Known}
use Rattle.tera_findings.specs.declared.finding.Finding.{Finding}
use Rattle.tera_findings.specs.declared.finding.Kind.{Kind}
use Rattle.tera_check.specs.declared.levels.Levels.{Levels}
use Rattle.tera_templates.specs.declared.templates.Template.{Template}
use Rattle.tera_files.specs.declared.reading.Source.{Source}
use Rattle.tera_fixes.specs.All.{AreSuggestedIn, are_too_many}
use Rattle.tera_fixes.specs.Better.{HasFewer}
use Rattle.tera_fixes.specs.Edited.{AreAscending, edit_view, edited, edits_if_any}
use Rattle.tera_fixes.specs.Suggestions.{SuggestionVal}
use Rattle.tera_jobs.specs.Sources.{IsReadFrom}
use Rattle.tera_jobs.specs.declared.fixing.Choice.{Choice}
use Rattle.tera_jobs.specs.declared.fixing.Choice.TheVariants as choices
use Rattle.tera_jobs.specs.declared.fixing.Fix.{Fix}

-- the suggestions for findings of the kind are taken
abbrev pub takes : Choice → Kind → Bool
takes choices.All kind = true
takes choices.Arguments kind = not (is_undefined_kind kind)
takes choices.Components kind = is_undefined_kind kind

abbrev pub is_corrected : Levels → Choice → Finding → Bool
is_corrected rules choice finding = is_some (level_of rules finding.kind) && takes choice finding.kind

-- something has the property
abbrev pub ThereIs : {X : Type 0} → (X → Type 0) → Type 0
ThereIs {X} P = (x : X) × P x

-- The text is the source with what the suggestions change, in the order of the source.
abbrev pub IsEdited : List ℕ → List (Option SuggestionVal) → List ℕ → Type 0
IsEdited source suggestions text =
    ThereIs (λ edits. AreAscending edits × IsPermutation (flat_map edits_if_any suggestions) (map edit_view edits) × (text ≡ edited source 0 (map edit_view edits)))

-- .. with the suggestions for these findings of the template
pub record IsCorrected (catalogue : BTreeMap (String Global) Known) (t : Template) (source : List ℕ) (findings : List Finding) (text : List ℕ) : Type 0 where
  pub suggestions : List (Option SuggestionVal)
  pub suggested : AreSuggestedIn catalogue t source findings suggestions
  pub edits : IsEdited source suggestions text

-- The text is the source with the suggestions for these findings. It is read as a template that has a tree, and has
-- fewer findings than were found before. Each of them has the message of one of those. It is known whether more of
-- these findings may have a suggestion than get one.
pub record IsReadFix (catalogue : BTreeMap (String Global) Known) (open_text : Bool) (marks : Marks) (faults number : ℕ) (t : Template) (source : Source) (findings found : List Finding) (fix : Fix) : Type 0 where
  pub numbered : fix.number ≡ number
  pub corrected : IsCorrected catalogue t (string_bytes source.text) findings (string_bytes fix.text)
  pub read : IsReadFrom marks (string_bytes source.file) (string_bytes fix.text) faults fix.template
  pub fewer : HasFewer (known_in catalogue) open_text number fix.template found fix.fewer
  pub more : fix.more ≡ are_too_many findings

-- .. for the findings of the template that are reported and taken. The source is the source of its file.
pub record IsFixOf (catalogue : BTreeMap (String Global) Known) (open_text : Bool) (marks : Marks) (faults : ℕ) (rules : Levels) (number : ℕ) (t : Template) (source : Source) (fix : Fix) : Type 0 where
  pub of_file : string_bytes t.file ≡ string_bytes source.file
  pub found : List Finding
  pub are : IsAllOf (known_in catalogue) open_text number t found
  pub choice : Choice
  pub better : IsReadFix catalogue open_text marks faults number t source (filter (is_corrected rules choice) found) found fix
