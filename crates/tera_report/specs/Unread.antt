-- A file that could not be read, in the forms of GitHub and of SARIF.
use Rattle.std.specs.Prelude.{List, ℕ, [], ◌∷◌, ◌++◌, codes}
use Rattle.json.specs.Token.{Token, begin_object, end_object}
use Rattle.json_members.specs.Members.{text_member}
use Rattle.line_text.specs.Line.{on_one_line}
use Rattle.tera_findings.specs.Findings.{first_span, severity_name}
use Rattle.tera_findings.specs.declared.finding.Severity.TheVariants.{Error}
use Rattle.tera_report.specs.Annotations.{command_of, escaped, property}
use Rattle.tera_report.specs.Logs.{locations, message}

-- a workflow command, whose title is the word for it
abbrev pub unread_annotation : List ℕ → List ℕ → List ℕ
unread_annotation file why =
    command_of Error ++ (property file ++ (codes ",title=unread::" ++ (escaped (on_one_line why) ++ codes "\n")))

-- a result of a log, whose rule is that word, at the start of the file
unfoldable pub unread_result : List ℕ → List ℕ → List Token
unread_result file why =
    begin_object ∷ (text_member (codes "ruleId") (codes "unread")
    ++ (text_member (codes "level") (severity_name Error)
    ++ (message why ++ (locations file first_span ++ end_object ∷ []))))
