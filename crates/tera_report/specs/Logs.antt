-- Logs in SARIF 2.1.0, as tokens of JSON.
use Rattle.std.specs.Prelude.{ℕ, List, [], ◌∷◌, ◌++◌, codes}
use Rattle.std.specs.List.{flat_map}
use Rattle.file_uris.specs.Encoding.{reference}
use Rattle.json.specs.Token.{Token, begin_object, end_object, begin_array, end_array, key}
use Rattle.json_members.specs.Members.{text_member, number_member}
use Rattle.tera_base.specs.declared.utils.Span.{Span}
use Rattle.tera_findings.specs.Findings.{NoteVal, NoteOf, FindingVal, FoundAs, kind_name, all_kinds, severity_name}
use Rattle.tera_findings.specs.declared.finding.Kind.{Kind}
use Rattle.tera_report.specs.Annotations.{column_of}

-- the beginning of a member that is an object, and of one that is an array
abbrev pub object_begin : List ℕ → List Token
object_begin name = key name ∷ begin_object ∷ []

abbrev pub array_begin : List ℕ → List Token
array_begin name = key name ∷ begin_array ∷ []

-- such members, and an object of an array
abbrev pub object_member : List ℕ → List Token → List Token
object_member name members = object_begin name ++ (members ++ (end_object ∷ []))

abbrev pub array_member : List ℕ → List Token → List Token
array_member name values = array_begin name ++ (values ++ (end_array ∷ []))

abbrev pub object : List Token → List Token
object members = (begin_object ∷ []) ++ (members ++ (end_object ∷ []))

-- a line and a column, under these names
abbrev pub corner : List ℕ → ℕ → List ℕ → ℕ → List Token
corner line_name line column_name col = number_member line_name line ++ number_member column_name (column_of col)

-- where a span begins and ends, the end by the column after it
abbrev pub region : Span → List Token
region s =
    object_member (codes "region")
    (corner (codes "startLine") s.start_line (codes "startColumn") s.start_col
    ++ corner (codes "endLine") s.end_line (codes "endColumn") s.end_col)

-- a span of a file, by its reference
abbrev pub place : List ℕ → Span → List Token
place file s =
    object_member (codes "physicalLocation")
    (object_member (codes "artifactLocation") (text_member (codes "uri") (reference file)) ++ region s)

abbrev pub message : List ℕ → List Token
message text = object_member (codes "message") (text_member (codes "text") text)

-- where a finding is
abbrev pub locations : List ℕ → Span → List Token
locations file s = array_member (codes "locations") (object (place file s))

-- a note that explains a finding
unfoldable pub note_object : NoteVal → List Token
note_object (NoteOf file span text) = object (place file span ++ message text)

abbrev pub notes_member : List NoteVal → List Token
notes_member notes = array_member (codes "relatedLocations") (flat_map note_object notes)

-- the result of a finding in a file
unfoldable pub result_object : List ℕ → FindingVal → List Token
result_object file (FoundAs kind severity span text notes) =
    begin_object ∷ (text_member (codes "ruleId") (kind_name kind)
    ++ (text_member (codes "level") (severity_name severity)
    ++ (message text ++ (locations file span ++ (notes_member notes ++ end_object ∷ [])))))

-- the kinds of what is found
abbrev pub rule : Kind → List Token
rule kind = object (text_member (codes "id") (kind_name kind))

-- .. and of a file that could not be read
abbrev pub unread_rule : List Token
unread_rule = object (text_member (codes "id") (codes "unread"))

abbrev pub rules : List Token
rules = array_member (codes "rules") (flat_map rule all_kinds ++ unread_rule)

-- the tool: the program, with the kinds of what it finds
abbrev pub tool : List ℕ → List Token
tool version =
    object_member (codes "tool") (object_member (codes "driver")
    (text_member (codes "name") (codes "tera") ++ (text_member (codes "version") version ++ rules)))

-- a log of one run, up to its results: the version of SARIF, and the tool
unfoldable pub log_begin : List ℕ → List Token
log_begin version =
    begin_object ∷ (text_member (codes "$schema") (codes "https://json.schemastore.org/sarif-2.1.0.json")
    ++ (text_member (codes "version") (codes "2.1.0")
    ++ (array_begin (codes "runs")
    ++ (begin_object ∷ (text_member (codes "columnKind") (codes "unicodeCodePoints")
    ++ (tool version ++ array_begin (codes "results")))))))

-- .. after them
unfoldable pub log_end : List Token
log_end = end_array ∷ end_object ∷ end_array ∷ end_object ∷ []
