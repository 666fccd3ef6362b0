-- From an `Error` to what it means.
use Rattle.std.specs.Prelude.{ℕ, List, [], ◌∷◌, ◌++◌, map, codes, string_bytes}
use Rattle.tera_base.specs.declared.utils.Span.{Span}
use Rattle.tera_base.specs.declared.errors.Error.{Error}
use Rattle.tera_base.specs.declared.errors.ErrorKind.{ErrorKind}
use Rattle.tera_base.specs.declared.errors.ErrorKind.TheVariants as kinds
use Rattle.tera_base.specs.declared.errors.Note.{Note}
use Rattle.tera_base.specs.declared.errors.ReportError.{ReportError}

-- a note: its label, the file that it is about, and the place there
pub data NoteVal : Type 0 where
  NoteOf : List ℕ → List ℕ → Span → NoteVal

-- a fault in a source: its text, its place, and its notes in order
pub data ReportVal : Type 0 where
  ReportOf : List ℕ → Span → List NoteVal → ReportVal

-- an allocation failed; a text without a place; a fault in a source
pub data ErrorVal : Type 0 where
  NoMemory : ErrorVal
  Saying : List ℕ → ErrorVal
  Reporting : ReportVal → ErrorVal

abbrev pub note_view : Note → NoteVal
note_view n = NoteOf (string_bytes n.label) (string_bytes n.filename) n.span

abbrev pub report_view : ReportError → ReportVal
report_view r = ReportOf (string_bytes r.message) r.span (map note_view r.notes.items)

abbrev pub kind_view : ErrorKind → ErrorVal
kind_view kinds.Memory = NoMemory
kind_view (kinds.Message s) = Saying (string_bytes s)
kind_view (kinds.SyntaxError b) = Reporting (report_view b.value)

abbrev pub error_view : Error → ErrorVal
error_view e = kind_view e.kind

-- a report with one more note, after the others
abbrev pub with_note : ReportVal → NoteVal → ReportVal
with_note (ReportOf text span notes) n = ReportOf text span (notes ++ n ∷ [])

-- what Display writes
abbrev pub report_text : ReportVal → List ℕ
report_text (ReportOf text span notes) = text

abbrev pub error_text : ErrorVal → List ℕ
error_text NoMemory = codes "out of memory"
error_text (Saying text) = text
error_text (Reporting r) = report_text r
