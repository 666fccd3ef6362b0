-- Errors whose notes were made to be about a file.
use Rattle.std.proofs.Common.{◌≡◌, ℕ, List, [], ◌∷◌, map, refl, sym, subst, inl, inr}
use Rattle.std.specs.Prelude.{◌⊎◌}
use Rattle.std.specs.List.{AllByRecursion}
use Rattle.tera_base.specs.Errors.{IsMemory, IsMemoryKind, KindReports, ReportsBy}
use Rattle.tera_base.specs.ErrorView.{ErrorVal, NoMemory, Saying, Reporting, ReportOf, NoteVal, NoteOf, error_view, kind_view}
use Rattle.tera_base.specs.declared.errors.Error.{Error}
use Rattle.tera_base.specs.declared.errors.ErrorKind.{ErrorKind}
use Rattle.tera_base.specs.declared.errors.ErrorKind.TheVariants.{Memory, Message, SyntaxError}
use Rattle.tera_base.specs.declared.utils.Span.{Span}
use Rattle.tera_parser.specs.Notes.{about, error_about, IsAbout, NotesName}
use Rattle.tera_expect.specs.Notes.{EachNote}

-- an allocation failed, by what an error means
abbrev IsNothing : ErrorVal → Type 0
IsNothing NoMemory = Unit {0}
IsNothing _ = ⊥

memory_means : (k : ErrorKind) → IsNothing (kind_view k) → IsMemoryKind k
memory_means Memory h = tt
memory_means (Message s) h = absurd h
memory_means (SyntaxError b) h = absurd h

means_memory : (k : ErrorKind) → IsMemoryKind k → IsNothing (kind_view k)
means_memory Memory h = tt
means_memory (Message s) h = absurd h
means_memory (SyntaxError b) h = absurd h

nothing_about : (file : List ℕ) (v : ErrorVal) → IsNothing v → IsNothing (error_about file v)
nothing_about file NoMemory h = tt
nothing_about file (Saying text) h = absurd h
nothing_about file (Reporting r) h = absurd h

pub memory_about : (file : List ℕ) (error result : Error) → IsMemory result ⊎ (error_view result ≡ error_about file (error_view error)) → IsMemory error → IsMemory result
memory_about file error result (inl h) m = h
memory_about file error result (inr h) m =
    memory_means result.kind (subst IsNothing (sym h) (nothing_about file _ (means_memory error.kind m)))

-- what an error says, by what it means
abbrev ReportsAbout : (List ℕ → Span → Type 0) → ErrorVal → Type 0
ReportsAbout P NoMemory = Unit {0}
ReportsAbout P (Saying text) = ⊥
ReportsAbout P (Reporting (ReportOf text span notes)) = P text span

reports_if : (P : List ℕ → Span → Type 0) (k : ErrorKind) → KindReports P k → ReportsAbout P (kind_view k)
reports_if P Memory h = tt
reports_if P (Message s) h = absurd h
reports_if P (SyntaxError b) h = h

reports_by : (P : List ℕ → Span → Type 0) (k : ErrorKind) → ReportsAbout P (kind_view k) → KindReports P k
reports_by P Memory h = tt
reports_by P (Message s) h = absurd h
reports_by P (SyntaxError b) h = h

reporting_about : (P : List ℕ → Span → Type 0) (file : List ℕ) (v : ErrorVal) → ReportsAbout P v → ReportsAbout P (error_about file v)
reporting_about P file NoMemory h = tt
reporting_about P file (Saying text) h = absurd h
reporting_about P file (Reporting (ReportOf text span notes)) h = h

memory_reports : (P : List ℕ → Span → Type 0) (k : ErrorKind) → IsMemoryKind k → KindReports P k
memory_reports P Memory h = tt
memory_reports P (Message s) h = absurd h
memory_reports P (SyntaxError b) h = absurd h

pub reports_about : (P : List ℕ → Span → Type 0) (file : List ℕ) (error result : Error) → IsMemory result ⊎ (error_view result ≡ error_about file (error_view error)) → ReportsBy P error → ReportsBy P result
reports_about P file error result (inl h) t = memory_reports P result.kind h
reports_about P file error result (inr h) t =
    reports_by P result.kind (subst (ReportsAbout P) (sym h) (reporting_about P file _ (reports_if P error.kind t)))

-- what holds of each note holds where it is about another file
all_about : (P Q : NoteVal → Type 0) (file : List ℕ) (notes : List NoteVal) → ((n : NoteVal) → P n → Q (about file n)) → AllByRecursion P notes → AllByRecursion Q (map (about file) notes)
all_about P Q file [] same all = tt
all_about P Q file (n ∷ notes) same (one, all) = (same n one, all_about P Q file notes same all)

each_about : (P Q : Span → NoteVal → Type 0) (file : List ℕ) (v : ErrorVal) → ((span : Span) (n : NoteVal) → P span n → Q span (about file n)) → EachNote P v
    → EachNote Q (error_about file v)
each_about P Q file NoMemory same all = tt
each_about P Q file (Saying text) same all = tt
each_about P Q file (Reporting (ReportOf text span notes)) same all = all_about (P span) (Q span) file notes (same span) all

memory_each : (P : Span → NoteVal → Type 0) (k : ErrorKind) → IsMemoryKind k → EachNote P (kind_view k)
memory_each P Memory h = tt
memory_each P (Message s) h = absurd h
memory_each P (SyntaxError b) h = absurd h

pub notes_about : (P : Span → NoteVal → Type 0) (file : List ℕ) (error result : Error) → IsMemory result ⊎ (error_view result ≡ error_about file (error_view error))
    → ((span : Span) (n : NoteVal) → P span n → P span (about file n)) → EachNote P (error_view error) → EachNote P (error_view result)
notes_about P file error result (inl h) same all = memory_each P result.kind h
notes_about P file error result (inr h) same all = subst (EachNote P) (sym h) (each_about P P file (error_view error) same all)

-- each note is about the file
all_of : (notes : List NoteVal) → AllByRecursion (λ n. Unit {0}) notes
all_of [] = tt
all_of (n ∷ notes) = (tt, all_of notes)

each_of : (v : ErrorVal) → EachNote (λ span n. Unit {0}) v
each_of NoMemory = tt
each_of (Saying text) = tt
each_of (Reporting (ReportOf text span notes)) = all_of notes

is_about : (file : List ℕ) (n : NoteVal) → IsAbout file (about file n)
is_about file (NoteOf label before span) = refl

pub notes_name : (file : List ℕ) (error result : Error) → IsMemory result ⊎ (error_view result ≡ error_about file (error_view error)) → NotesName file result
notes_name file error result (inl h) = memory_each (λ span n. IsAbout file n) result.kind h
notes_name file error result (inr h) =
    subst (EachNote (λ span n. IsAbout file n)) (sym h)
    (each_about (λ span n. Unit {0}) (λ span n. IsAbout file n) file (error_view error) (λ span n u. is_about file n) (each_of (error_view error)))
