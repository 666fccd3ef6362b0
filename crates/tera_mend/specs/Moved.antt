-- Errors of a text that begins at a place of another, there.
use Rattle.std.specs.Prelude.{◌+◌, ◌-◌, ◌==◌, ◌<◌, if◌then◌else◌, ℕ, map}
use Rattle.tera_base.specs.ErrorView.{ErrorVal, NoMemory, Saying, Reporting, ReportVal, ReportOf, NoteVal, NoteOf}
use Rattle.tera_base.specs.declared.utils.Span.{Span}
use Rattle.tera_lexer.specs.declared.lexer.place.Place.{Place}

-- the column of the other text: only the first line begins after something
abbrev pub moved_column : Place → ℕ → ℕ → ℕ
moved_column p line column = if line == 1 then p.column + column else column

abbrev pub moved_span : Place → Span → Span
moved_span p s = record {
  start_line = (p.line - 1) + s.start_line;
  start_col = moved_column p s.start_line s.start_col;
  end_line = (p.line - 1) + s.end_line;
  end_col = moved_column p s.end_line s.end_col;
  range = record { start = p.byte + s.range.start; end = p.byte + s.range.end };
}

abbrev pub moved_note : Place → NoteVal → NoteVal
moved_note p (NoteOf label file span) = NoteOf label file (moved_span p span)

abbrev pub moved_report : Place → ReportVal → ReportVal
moved_report p (ReportOf text span notes) = ReportOf text (moved_span p span) (map (moved_note p) notes)

-- the same text, and the same notes, each at its place in the other text
abbrev pub moved_error : Place → ErrorVal → ErrorVal
moved_error p NoMemory = NoMemory
moved_error p (Saying text) = Saying text
moved_error p (Reporting r) = Reporting (moved_report p r)

abbrev pub ReportBeginsBefore : ℕ → ReportVal → Type 0
ReportBeginsBefore n (ReportOf text span notes) = span.range.start < n

-- a fault that begins before this byte
abbrev pub BeginsBefore : ℕ → ErrorVal → Type 0
BeginsBefore n NoMemory = ⊥
BeginsBefore n (Saying text) = ⊥
BeginsBefore n (Reporting r) = ReportBeginsBefore n r
