-- A finding as text for people.
use Rattle.std.specs.Prelude.{ℕ, ◌==◌, if◌then◌else◌, List, [], ◌∷◌, ◌++◌, flat_map, Option, Some, None, codes, decimal}
use Rattle.line_text.specs.Line.{on_one_line}
use Rattle.tera_base.specs.declared.utils.Span.{Span}
use Rattle.tera_findings.specs.Findings.{NoteVal, NoteOf, FindingVal, FoundAs, label_of, place_of}
use Rattle.tera_findings.specs.declared.finding.Place.{Place}
use Rattle.tera_findings.specs.declared.finding.Severity.{Severity}
use Rattle.tera_findings.specs.declared.finding.Severity.TheVariants as severities
use Rattle.tera_report.specs.declared.role.Role.{Role}
use Rattle.tera_report.specs.declared.role.Role.TheVariants.{Finding, Help, Note}
use Rattle.terminal_text.specs.Excerpt.{excerpt}
use Rattle.terminal_text.specs.Lines.{line_at}
use Rattle.terminal_text.specs.Styled.{styled}
use Rattle.terminal_text.specs.declared.excerpt.Marked.{Marked}
use Rattle.terminal_text.specs.declared.style.Part.{Part}
use Rattle.terminal_text.specs.declared.style.Part.TheVariants as parts
use Rattle.terminal_text.specs.declared.style.Style.{Style}

-- the word for a role, with the rule of a finding, and its colour
abbrev pub word_of : Role → List ℕ
word_of (Finding kind severity) = label_of kind severity
word_of Note = codes "note"
word_of Help = codes "help"

abbrev pub colour_of : Severity → Part
colour_of severities.Error = parts.Error
colour_of severities.Warning = parts.Warning

abbrev pub part_of : Role → Part
part_of (Finding kind severity) = colour_of severity
part_of Note = parts.Note
part_of Help = parts.Note

-- a file with a place in it
abbrev pub place_text : List ℕ → Place → List ℕ
place_text file place = on_one_line file ++ (codes ":" ++ (decimal place.line ++ (codes ":" ++ (decimal place.column ++ codes ":"))))

-- the characters of a span, as far as they are on its first line
abbrev pub marked_of : Span → Marked
marked_of s = record { line = s.start_line; start = s.start_col; end = if s.end_line == s.start_line then Some s.end_col else None }

-- a message: its place, its role, and its text
abbrev pub message_line : Style → Role → List ℕ → Span → List ℕ → List ℕ
message_line style role file span text =
    styled style parts.Place (place_text file (place_of span)) ++ (codes " " ++ (styled style (part_of role) (word_of role) ++ (codes ": " ++ (on_one_line text ++ 10 ∷ []))))

-- what may have been meant at the place of a finding
abbrev pub help_line : Style → List ℕ → Span → List ℕ → List ℕ
help_line style file span text = message_line style Help file span text

-- with the line that it is about, if the source of the file is known
abbrev pub message : Style → (List ℕ → Option (List ℕ)) → Role → List ℕ → Span → List ℕ → List ℕ
message style known role file span text =
    message_line style role file span text ++ excerpt style (part_of role) (marked_of span) (line_at (known file) span.start_line)

abbrev pub note_text : Style → (List ℕ → Option (List ℕ)) → NoteVal → List ℕ
note_text style known (NoteOf file span text) = message style known Note file span text

-- the finding in a file, and its notes
unfoldable pub full_text : Style → (List ℕ → Option (List ℕ)) → List ℕ → FindingVal → List ℕ
full_text style known file (FoundAs kind severity span text notes) =
    message style known (Finding kind severity) file span text ++ flat_map (note_text style known) notes

-- without colours and sources: a line has the place, the label and the text
abbrev pub line_of : List ℕ → Place → List ℕ → List ℕ → List ℕ
line_of file place label text =
    on_one_line file ++ ((codes ":" ++ (decimal place.line ++ (codes ":" ++ (decimal place.column ++ (codes ": " ++ (label ++ codes ": ")))))) ++ (on_one_line text ++ 10 ∷ []))

abbrev pub note_line : NoteVal → List ℕ
note_line (NoteOf file span text) = line_of file (place_of span) (codes "note") text

-- the lines of a finding in a file: its own, and one for each of its notes
abbrev pub lines_of : List ℕ → FindingVal → List ℕ
lines_of file (FoundAs kind severity span text notes) =
    line_of file (place_of span) (label_of kind severity) text ++ flat_map note_line notes
