-- Findings.
use Rattle.std.specs.Prelude.{Bool, true, false, Option, None, Some, if◌then◌else◌, ◌≡◌, ◌+◌, ◌-◌, ◌^◌, ℕ, List, [], ◌∷◌, ◌++◌, map, codes, string_bytes, min}
use Rattle.std.specs.Str.{bytes_eq}
use Rattle.tera_base.specs.ErrorView.{ErrorVal, NoMemory, Saying, Reporting, ReportVal, ReportOf}
use Rattle.tera_base.specs.ErrorView as errors
use Rattle.tera_base.specs.declared.utils.Span.{Span}
use Rattle.tera_findings.specs.declared.finding.Kind.{Kind}
use Rattle.tera_findings.specs.declared.finding.Kind.TheVariants as kinds
use Rattle.tera_findings.specs.declared.finding.Place.{Place}
use Rattle.tera_findings.specs.declared.finding.Note.{Note}
use Rattle.tera_findings.specs.declared.finding.Finding.{Finding}
use Rattle.tera_findings.specs.declared.finding.Severity.{Severity}
use Rattle.tera_findings.specs.declared.finding.Severity.TheVariants as severities

-- where a span begins, with its column counted from 1
abbrev pub place_of : Span → Place
place_of s = record { line = s.start_line; column = min (s.start_col + 1) (2 ^ 64 - 1) }

-- where it ends, in the same way: the column after its last character
abbrev pub end_of : Span → Place
end_of s = record { line = s.end_line; column = min (s.end_col + 1) (2 ^ 64 - 1) }

-- an empty span at the start of a file
abbrev pub first_span : Span
first_span = record { start_line = 1; start_col = 0; end_line = 1; end_col = 0; range = record { start = 0; end = 0 } }

-- the span of a name; the start of the file if it is not known
abbrev pub span_if_any : Option Span → Span
span_if_any None = first_span
span_if_any (Some span) = span

-- the word for a kind
abbrev pub kind_name : Kind → List ℕ
kind_name kinds.Fault = codes "fault"
kind_name kinds.UndefinedComponent = codes "undefined-component"
kind_name kinds.MissingArgument = codes "missing-argument"
kind_name kinds.UnknownArgument = codes "unknown-argument"
kind_name kinds.WrongType = codes "wrong-type"
kind_name kinds.RepeatedArgument = codes "repeated-argument"
kind_name kinds.UnusedBody = codes "unused-body"
kind_name kinds.UnusedParameter = codes "unused-parameter"
kind_name kinds.UnusedComponent = codes "unused-component"
kind_name kinds.DefinedAgain = codes "defined-again"
kind_name kinds.RepeatedKey = codes "repeated-key"
kind_name kinds.RepeatedCondition = codes "repeated-condition"
kind_name kinds.UnusedIgnore = codes "unused-ignore"
kind_name kinds.MissingTemplate = codes "missing-template"
kind_name kinds.CircularExtends = codes "circular-extends"
kind_name kinds.CircularInclude = codes "circular-include"
kind_name kinds.UndefinedBlock = codes "undefined-block"
kind_name kinds.SuperWithoutParent = codes "super-without-parent"
kind_name kinds.UnknownFilter = codes "unknown-filter"
kind_name kinds.UnknownTest = codes "unknown-test"
kind_name kinds.UnknownFunction = codes "unknown-function"

-- all kinds
abbrev pub all_kinds : List Kind
all_kinds =
    kinds.Fault ∷ kinds.UndefinedComponent ∷ kinds.MissingArgument ∷ kinds.UnknownArgument ∷ kinds.WrongType ∷ kinds.RepeatedArgument ∷ kinds.UnusedBody
    ∷ kinds.UnusedParameter
    ∷ kinds.UnusedComponent ∷ kinds.DefinedAgain ∷ kinds.RepeatedKey ∷ kinds.RepeatedCondition ∷ kinds.UnusedIgnore ∷ kinds.MissingTemplate ∷ kinds.CircularExtends ∷ kinds.CircularInclude
    ∷ kinds.UndefinedBlock ∷ kinds.SuperWithoutParent ∷ kinds.UnknownFilter ∷ kinds.UnknownTest ∷ kinds.UnknownFunction ∷ []

-- the severity of a kind, unless another one is set for it: what is not used, or may not be meant, is a warning, and
-- all else an error
abbrev pub severity_of : Kind → Severity
severity_of kinds.RepeatedArgument = severities.Warning
severity_of kinds.UnusedBody = severities.Warning
severity_of kinds.UnusedParameter = severities.Warning
severity_of kinds.UnusedComponent = severities.Warning
severity_of kinds.RepeatedKey = severities.Warning
severity_of kinds.RepeatedCondition = severities.Warning
severity_of kinds.UnusedIgnore = severities.Warning
severity_of kinds.CircularInclude = severities.Warning
severity_of kinds.UndefinedBlock = severities.Warning
severity_of kinds.SuperWithoutParent = severities.Warning
severity_of _ = severities.Error

-- the level of a kind, unless something else is set; unused components are off, as the program may call them
abbrev pub default_level : Kind → Option Severity
default_level kinds.UnusedComponent = None
default_level kind = Some (severity_of kind)

-- findings of the kind depend on what other files define or call, on the names of templates or on what a program
-- registers, which may not be known
abbrev pub depends_on_others : Kind → Bool
depends_on_others kinds.UnusedComponent = true
depends_on_others kinds.UnusedBody = true
depends_on_others kinds.DefinedAgain = true
depends_on_others kinds.MissingArgument = true
depends_on_others kinds.UnknownArgument = true
depends_on_others kinds.WrongType = true
depends_on_others kinds.MissingTemplate = true
depends_on_others kinds.CircularExtends = true
depends_on_others kinds.CircularInclude = true
depends_on_others kinds.UndefinedBlock = true
depends_on_others kinds.SuperWithoutParent = true
depends_on_others kinds.UnknownFilter = true
depends_on_others kinds.UnknownTest = true
depends_on_others kinds.UnknownFunction = true
depends_on_others _ = false

-- the word for a severity
abbrev pub severity_name : Severity → List ℕ
severity_name severities.Error = codes "error"
severity_name severities.Warning = codes "warning"

-- what a line calls a finding: its severity, and the word for its kind
abbrev pub label_of : Kind → Severity → List ℕ
label_of kind severity = severity_name severity ++ (codes "[" ++ (kind_name kind ++ codes "]"))

-- a note: its file, the span there that it is about, and its text
pub data NoteVal : Type 0 where
  NoteOf : List ℕ → Span → List ℕ → NoteVal

-- a finding: its kind, its severity, the span that it is about, its text, and its notes in order
pub data FindingVal : Type 0 where
  FoundAs : Kind → Severity → Span → List ℕ → List NoteVal → FindingVal

-- .. with the severity of its kind
abbrev pub FindingOf : Kind → Span → List ℕ → List NoteVal → FindingVal
FindingOf kind = FoundAs kind (severity_of kind)

abbrev pub note_view : Note → NoteVal
note_view n = NoteOf (string_bytes n.file) n.span (string_bytes n.message)

abbrev pub finding_view : Finding → FindingVal
finding_view f = FoundAs f.kind f.severity f.span (string_bytes f.message) (map note_view f.notes.items)

-- a hint for a fault whose text does not say what a user can do about it, or that it is a limit of this parser
abbrev pub float_hint : List ℕ
float_hint = codes "Tera reads floating-point numbers, and this parser does not"

abbrev pub hint_of : List ℕ → Option (List ℕ)
hint_of text = if bytes_eq text (codes "Float literals are not supported") then Some float_hint else None

-- the note with the hint, at the place of the fault
abbrev pub hint_notes : List ℕ → Span → Option (List ℕ) → List NoteVal
hint_notes file span None = []
hint_notes file span (Some hint) = NoteOf file span hint ∷ []

-- the note for a note of a fault, and the finding of a fault in the file of a name: its notes are followed by the hint
abbrev pub note_of : errors.NoteVal → NoteVal
note_of (errors.NoteOf label file span) = NoteOf file span label

abbrev pub finding_of : List ℕ → ReportVal → FindingVal
finding_of file (ReportOf text span notes) =
    FindingOf kinds.Fault span text (map note_of notes ++ hint_notes file span (hint_of text))

-- it is the finding of the error in the file of a name; an allocation failure has none
abbrev pub IsOfError : List ℕ → ErrorVal → FindingVal → Type 0
IsOfError file NoMemory f = ⊥
IsOfError file (Saying text) f = f ≡ FindingOf kinds.Fault first_span text []
IsOfError file (Reporting r) f = f ≡ finding_of file r
