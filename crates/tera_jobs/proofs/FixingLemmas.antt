-- A fix by the findings that were found before.
use Rattle.std.proofs.Common.{◌≡◌, ℕ, List, Bool, true, Option, None, Some, String, bytes_eq, string_bytes, subst}
use Rattle.std.specs.Prelude.{IfSome, filter}
use Rattle.std.specs.BTreeMap.{BTreeMap}
use Rattle.std.specs.declared.alloc.Global.{Global}
use Rattle.std.proofs.lemmas.Slice.Eq.{bytes_eq-Decides}
use Rattle.tera_lexer.specs.grammar.Marks.{Marks}
use Rattle.tera_check.specs.Found.{IsAllOf}
use Rattle.tera_check.specs.Named.{known_in}
use Rattle.tera_rules.specs.declared.known.Known.{Known}
use Rattle.tera_findings.specs.declared.finding.Finding.{Finding}
use Rattle.tera_check.specs.declared.levels.Levels.{Levels}
use Rattle.tera_templates.specs.declared.templates.Template.{Template}
use Rattle.tera_files.specs.declared.reading.Source.{Source}
use Rattle.tera_fixes.specs.All.{AreSuggestedIn, are_too_many}
use Rattle.tera_fixes.specs.Better.{HasFewer}
use Rattle.tera_fixes.specs.Suggestions.{SuggestionVal}
use Rattle.tera_jobs.specs.Fixing.{IsEdited, IsFixOf, IsReadFix, is_corrected}
use Rattle.tera_jobs.specs.Sources.{IsReadFrom}
use Rattle.tera_jobs.specs.declared.fixing.Choice.{Choice}
use Rattle.tera_jobs.specs.declared.fixing.Fix.{Fix}

pub read_fix : (catalogue : BTreeMap (String Global) Known) (open_text : Bool) (marks : Marks) (faults number : ℕ) (t : Template) (source : Source) (findings found : List Finding)
    (suggestions : List (Option SuggestionVal)) (fix : Fix)
    → fix.number ≡ number → AreSuggestedIn catalogue t (string_bytes source.text) findings suggestions
    → IsEdited (string_bytes source.text) suggestions (string_bytes fix.text)
    → IsReadFrom marks (string_bytes source.file) (string_bytes fix.text) faults fix.template → HasFewer (known_in catalogue) open_text number fix.template found fix.fewer
    → fix.more ≡ are_too_many findings → IsReadFix catalogue open_text marks faults number t source findings found fix
read_fix catalogue open_text marks faults number t source findings found suggestions fix numbered are made read fewer more =
    record {
      numbered = numbered;
      corrected = record { suggestions = suggestions; suggested = are; edits = made };
      read = read;
      fewer = fewer;
      more = more;
    }

pub fix_of_found : (catalogue : BTreeMap (String Global) Known) (open_text : Bool) (marks : Marks) (faults : ℕ) (rules : Levels) (number : ℕ) (t : Template) (source : Source)
    (choice : Choice) (findings found : List Finding) (fix : Option Fix)
    → bytes_eq (string_bytes t.file) (string_bytes source.file) ≡ true → IsAllOf (known_in catalogue) open_text number t found → findings ≡ filter (is_corrected rules choice) found
    → IfSome fix (IsReadFix catalogue open_text marks faults number t source findings found)
    → IfSome fix (IsFixOf catalogue open_text marks faults rules number t source)
fix_of_found catalogue open_text marks faults rules number t source choice findings found None same are taken read = tt
fix_of_found catalogue open_text marks faults rules number t source choice findings found (Some fix) same are taken read =
    record {
      of_file = (bytes_eq-Decides (string_bytes t.file) (string_bytes source.file)).0 same;
      found = found;
      are = are;
      choice = choice;
      better = subst (λ fs. IsReadFix catalogue open_text marks faults number t source fs found fix) taken read;
    }
