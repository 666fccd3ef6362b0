-- What the notes of a fault are about, and where they are.
use Rattle.std.specs.Prelude.{◌≡◌, ◌⊎◌, ℕ, List, codes, map}
use Rattle.tera_base.specs.ErrorView.{ErrorVal, NoMemory, Saying, Reporting, ReportVal, ReportOf, NoteVal, NoteOf, error_view}
use Rattle.tera_base.specs.declared.errors.Error.{Error}
use Rattle.tera_base.specs.declared.utils.Span.{Span}
use Rattle.tera_lexer.specs.grammar.Marks.{Marks}
use Rattle.tera_lexer.specs.grammar.Tokens.{AreTokensOf, Ident, Items, Token}
pub use Rattle.tera_expect.specs.Notes.{EachNote}

-- a note, about the file of this name
abbrev pub about : List ℕ → NoteVal → NoteVal
about filename (NoteOf label before span) = NoteOf label filename span

abbrev pub report_about : List ℕ → ReportVal → ReportVal
report_about filename (ReportOf text span notes) = ReportOf text span (map (about filename) notes)

-- an error, whose notes are about the file of this name
abbrev pub error_about : List ℕ → ErrorVal → ErrorVal
error_about filename NoMemory = NoMemory
error_about filename (Saying text) = Saying text
error_about filename (Reporting r) = Reporting (report_about filename r)

abbrev pub IsAbout : List ℕ → NoteVal → Type 0
IsAbout filename (NoteOf label name span) = name ≡ filename

-- each note of an error is about the file of this name
abbrev pub NotesName : List ℕ → Error → Type 0
NotesName filename e = EachNote (λ span n. IsAbout filename n) (error_view e)

-- a name is at this place among the tokens, and something is so of those after it
abbrev pub Has : List ℕ → Span → (Items → Type 0) → Items → Type 0
Has name span After (Token t here items) = ((t ≡ Ident name) × (here ≡ span) × After items) ⊎ Has name span After items
Has name span After items = ⊥

-- A note on where a name is defined first is at a name of the tokens, and the same name comes later, where the fault is.
-- Of a name with dots it is the last part.
abbrev pub IsAtFirst : Items → Span → NoteVal → Type 0
IsAtFirst items span (NoteOf label file first) =
    label ≡ codes "first defined here" → (name : List ℕ) × Has name first (Has name span (λ left. Unit {0})) items

-- each note of an error is so, of the tokens of the source
abbrev pub NotesFirst : Marks → List ℕ → Error → Type 0
NotesFirst m source e = (items : Items) → AreTokensOf m source items → EachNote (IsAtFirst items) (error_view e)
