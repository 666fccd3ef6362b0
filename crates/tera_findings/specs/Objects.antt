-- Findings as objects of JSON.
use Rattle.std.specs.Prelude.{ℕ, List, [], ◌∷◌, ◌++◌, codes}
use Rattle.std.specs.List.{flat_map}
use Rattle.json.specs.Token.{Token, begin_object, end_object, begin_array, end_array, key}
use Rattle.json_members.specs.Members.{text_member, number_member}
use Rattle.tera_base.specs.declared.utils.Span.{Span}
use Rattle.tera_findings.specs.declared.finding.Severity.{Severity}
use Rattle.tera_findings.specs.declared.finding.Severity.TheVariants.{Error}
use Rattle.tera_findings.specs.Findings.{place_of, end_of, first_span, kind_name, severity_name}
use Rattle.tera_findings.specs.Findings.{NoteVal, NoteOf, FindingVal, FoundAs}

-- the members that a finding and a note have: the file, where the span begins and ends, and the text
unfoldable pub members : List ℕ → Span → List ℕ → List Token
members file span text =
    text_member (codes "file") file
    ++ (number_member (codes "line") (place_of span).line
    ++ (number_member (codes "column") (place_of span).column
    ++ (number_member (codes "end_line") (end_of span).line
    ++ (number_member (codes "end_column") (end_of span).column ++ text_member (codes "message") text))))

abbrev pub note_object : NoteVal → List Token
note_object (NoteOf file span text) = (begin_object ∷ []) ++ (members file span text ++ (end_object ∷ []))

abbrev pub notes_member : List NoteVal → List Token
notes_member notes = key (codes "notes") ∷ begin_array ∷ (flat_map note_object notes ++ end_array ∷ [])

-- an object also has the severity, and the word for the kind
unfoldable pub object_with : List ℕ → Span → List ℕ → Severity → List ℕ → List NoteVal → List Token
object_with file span text severity word notes =
    begin_object ∷ (members file span text
    ++ (text_member (codes "severity") (severity_name severity)
    ++ (text_member (codes "kind") word ++ (notes_member notes ++ end_object ∷ []))))

-- the tokens of the object of a finding in a file
abbrev pub object_of : List ℕ → FindingVal → List Token
object_of file (FoundAs kind severity span text notes) =
    object_with file span text severity (kind_name kind) notes

-- the object for a file that could not be read, and why: its place is the start of the file
unfoldable pub unread_object : List ℕ → List ℕ → List Token
unread_object file why = object_with file first_span why Error (codes "unread") []
