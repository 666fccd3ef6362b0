-- Findings, and files that could not be read, as text in each form.
use Rattle.std.specs.Prelude.{ℕ, suc, List, [], ◌∷◌, ◌++◌, Option, None, Some, codes}
use Rattle.std.specs.List.{flat_map}
use Rattle.json.specs.Token.{Token}
use Rattle.json.specs.Print.{print}
use Rattle.tera_findings.specs.Findings.{FindingVal, FoundAs}
use Rattle.tera_findings.specs.Objects.{object_of, unread_object}
use Rattle.tera_report.specs.Annotations.{annotation}
use Rattle.tera_report.specs.Logs.{log_begin, log_end, result_object}
use Rattle.tera_report.specs.FullTexts.{full_text, help_line, lines_of}
use Rattle.tera_report.specs.Unread.{unread_annotation, unread_result}
use Rattle.tera_answers.specs.Abilities.{version}
use Rattle.terminal_text.specs.declared.style.Style.{Style}
use Rattle.tera_check.specs.Found.{FoundVal}
use Rattle.tera_jobs.specs.Sources.{Known, UnreadVal}
use Rattle.tera_options.specs.declared.job.Form.{Form}
use Rattle.tera_options.specs.declared.job.Form.TheVariants as forms

-- what is written for the findings in a file, one after another
abbrev pub of_each : {A : Type 0} → (List ℕ → FindingVal → List A) → FoundVal → List A
of_each of_one found = flat_map (of_one found.0) found.1

-- .. each with its suggestion; the findings are counted from this number on
abbrev pub each_from : (Option (List ℕ) → FindingVal → List ℕ) → (ℕ → Option (List ℕ)) → ℕ → List FindingVal → List ℕ
each_from of_one help at [] = []
each_from of_one help at (f ∷ fs) = of_one (help at) f ++ each_from of_one help (suc at) fs

-- .. in all files, which are counted from this number on
abbrev pub all_from : (List ℕ → Option (List ℕ) → FindingVal → List ℕ) → (ℕ → ℕ → Option (List ℕ)) → ℕ → List FoundVal → List ℕ
all_from of_one help number [] = []
all_from of_one help number (x ∷ xs) = each_from (of_one x.0) (help number) 0 x.1 ++ all_from of_one help (suc number) xs

-- the line of the suggestion for a finding, if there is one
abbrev pub help_text : Style → List ℕ → Option (List ℕ) → FindingVal → List ℕ
help_text style file None finding = []
help_text style file (Some help) (FoundAs kind severity span text notes) = help_line style file span help

-- the text of a finding in a file; a log has no text of single findings
abbrev pub finding_text : Form → Style → Known → List ℕ → Option (List ℕ) → FindingVal → List ℕ
finding_text forms.Full style known file help finding = full_text style known file finding ++ help_text style file help finding
finding_text forms.Concise style known file help finding = lines_of file finding
finding_text forms.Json style known file help finding = print (object_of file finding) ++ 10 ∷ []
finding_text forms.Github style known file help finding = annotation file finding
finding_text forms.Sarif style known file help finding = []

-- what is written for a file that could not be read
abbrev pub of_unread : {A : Type 0} → (List ℕ → List ℕ → List A) → UnreadVal → List A
of_unread of_one unread = of_one unread.0 unread.1

-- the text for a file that could not be read; for people it is on standard error, and a log has no text of single
-- results
abbrev pub unread_text : Form → UnreadVal → List ℕ
unread_text forms.Full unread = []
unread_text forms.Concise unread = []
unread_text forms.Json unread = print (of_unread unread_object unread) ++ 10 ∷ []
unread_text forms.Github unread = of_unread unread_annotation unread
unread_text forms.Sarif unread = []

-- the tokens of a log
abbrev pub log_of : List UnreadVal → List FoundVal → List Token
log_of unread all =
    log_begin version ++ (flat_map (of_unread unread_result) unread ++ (flat_map (of_each result_object) all ++ log_end))

-- what is written for the files that could not be read, and for the findings in all others
abbrev pub texts_of : Form → Style → Known → (ℕ → ℕ → Option (List ℕ)) → List UnreadVal → List FoundVal → List ℕ
texts_of form style known help unread all =
    flat_map (unread_text form) unread ++ all_from (finding_text form style known) help 0 all

-- .. with the suggestion for the finding of a number in the template of a number
abbrev pub text_of : Form → Style → Known → (ℕ → ℕ → Option (List ℕ)) → List UnreadVal → List FoundVal → List ℕ
text_of forms.Sarif style known help unread all = print (log_of unread all) ++ 10 ∷ []
text_of forms.Full style known help unread all = texts_of forms.Full style known help unread all
text_of forms.Concise style known help unread all = texts_of forms.Concise style known help unread all
text_of forms.Json style known help unread all = texts_of forms.Json style known help unread all
text_of forms.Github style known help unread all = texts_of forms.Github style known help unread all
