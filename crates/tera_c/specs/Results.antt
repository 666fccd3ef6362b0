-- What is reported for a source within limits and between markers.
use Rattle.std.specs.Prelude.{◌≡◌, ◌⊎◌, ◌≤◌, ℕ, List, length, Some, slice_get, IsUtf8}
use Rattle.tera_base.specs.ErrorView.{ReportVal, ReportOf, NoteVal, NoteOf}
use Rattle.tera_base.specs.declared.utils.Span.{Span}
use Rattle.tera_lexer.specs.grammar.Marks.{Marks}
use Rattle.tera_lexer.specs.grammar.Place.{IsWithin}
use Rattle.tera_lexer.specs.grammar.Tokens.{Items, AreTokensOf}
use Rattle.tera_lexer.specs.grammar.Faults.{Faults}
use Rattle.tera_tree.specs.Tree.{Output}
use Rattle.tera_grammar.specs.Limits.{Limits}
use Rattle.tera_grammar.specs.statements.Lost.{AreLost}
use Rattle.tera_grammar.specs.statements.Top.{Derives}
use Rattle.tera_expr_parts.specs.Allowed.{AreValid}
use Rattle.tera_tree_json.specs.TreeJson.{json_text}
use Rattle.tera_tree_text.specs.TreeText.{text_of}
use Rattle.tera_c.specs.Asked.{marks_at, AreMarkers, IsReadable}
use Rattle.tera_c.specs.Statuses.{IsPut, IsLeft}
use Rattle.tera_c.specs.declared.shapes.Place.{Place}
use Rattle.tera_c.specs.declared.shapes.Fault.{Fault}
use Rattle.tera_c.specs.declared.status.Status.{Status}
use Rattle.tera_c.specs.declared.status.Status.TheVariants.{Written, Short, Faulty, Nothing}
use Rattle.tera_c.specs.declared.status.Status.TheVariants.{NotUtf8, BadMarkers, BadLimits, Memory}

-- the place at a span
abbrev pub place_of : Span → Place
place_of s = record {
  start_line = s.start_line;
  start_column = s.start_col;
  end_line = s.end_line;
  end_column = s.end_col;
  start = s.range.start;
  end = s.range.end;
}

abbrev pub text_at : ReportVal → List ℕ
text_at (ReportOf text span notes) = text

abbrev pub span_at : ReportVal → Span
span_at (ReportOf text span notes) = span

abbrev pub notes_at : ReportVal → List NoteVal
notes_at (ReportOf text span notes) = notes

abbrev pub label_of : NoteVal → List ℕ
label_of (NoteOf label filename span) = label

abbrev pub note_span : NoteVal → Span
note_span (NoteOf label filename span) = span

-- where a fault is, and how many notes it has
abbrev pub fault_of : ReportVal → Fault
fault_of r = record { place = place_of (span_at r); notes = length (notes_at r) }

-- a report says the lexical fault of a source, or a fault that covers tokens of it; there the source is lost
abbrev pub Reports : Limits → Marks → List ℕ → ReportVal → Type 0
Reports l m source r =
    IsWithin source (span_at r)
    × ((items : Items) × AreTokensOf m source items × Faults items (text_at r) (span_at r))
    × ((items : Items) → AreTokensOf m source items → AreLost l (span_at r).range.end items)

-- a source can be read, and has this tree
abbrev pub HasTree : Limits → List ℕ → List ℕ → Output → Type 0
HasTree l markers source output = IsReadable l markers source × Derives l (marks_at markers) source output

-- a source can be read, and has no tree, as this report says
abbrev pub HasFault : Limits → List ℕ → List ℕ → ReportVal → Type 0
HasFault l markers source report =
    IsReadable l markers source
    × ((output : Output) → Derives l (marks_at markers) source output → ⊥)
    × Reports l (marks_at markers) source report

-- nothing is reported for a source: what is asked cannot be read, or an allocation failed
abbrev pub HasNoResult : Limits → List ℕ → List ℕ → Status → Type 0
HasNoResult l markers source Written = ⊥
HasNoResult l markers source Short = ⊥
HasNoResult l markers source Faulty = ⊥
HasNoResult l markers source Nothing = ⊥
HasNoResult l markers source NotUtf8 = IsUtf8 source → ⊥
HasNoResult l markers source BadMarkers = AreMarkers markers → ⊥
HasNoResult l markers source BadLimits = AreValid l → ⊥
HasNoResult l markers source Memory = Unit {0}

-- what a buffer held and holds after a call that asks for a text of the tree, and what is needed: the text was put
-- there, or left out for want of room; or the source has a fault; or nothing is reported
abbrev pub WritesText :
    (Output → List ℕ) → Limits → List ℕ → List ℕ → Status → List ℕ → List ℕ → ℕ → Type 0
WritesText text l markers source status old new needed =
    ((output : Output) × HasTree l markers source output × IsPut (text output) status old new needed)
    ⊎ (((status ≡ Faulty) × ((report : ReportVal) × HasFault l markers source report) × IsLeft old new needed)
    ⊎ (HasNoResult l markers source status × IsLeft old new needed))

-- line by line
abbrev pub WritesTree : Limits → List ℕ → List ℕ → Status → List ℕ → List ℕ → ℕ → Type 0
WritesTree = WritesText text_of

-- as JSON
abbrev pub WritesJson : Limits → List ℕ → List ℕ → Status → List ℕ → List ℕ → ℕ → Type 0
WritesJson = WritesText json_text

-- the text of a report was put into a buffer, and its place was reported
abbrev pub PutsFault : ReportVal → Status → List ℕ → List ℕ → ℕ → Fault → Type 0
PutsFault report status old new needed returned =
    IsPut (text_at report) status old new needed × (returned ≡ fault_of report)

-- the label of a note of a report, counted from 0, was put into a buffer, and its place was reported; or there is none
abbrev pub PutsNote : ReportVal → ℕ → Status → List ℕ → List ℕ → ℕ → Place → Place → Type 0
PutsNote report index status old new needed before returned =
    ((note : NoteVal) × (slice_get (notes_at report) index ≡ Some note)
    × IsPut (label_of note) status old new needed × (returned ≡ place_of (note_span note)))
    ⊎ ((status ≡ Nothing) × (length (notes_at report) ≤ index) × IsLeft old new needed × (returned ≡ before))

-- the same of a call that asks for the fault: the text of a report of it was put there, and its place was reported; or
-- the source has a tree; or nothing is reported
abbrev pub WritesFault :
    Limits → List ℕ → List ℕ → Status → List ℕ → List ℕ → ℕ → Fault → Fault → Type 0
WritesFault l markers source status old new needed before returned =
    ((report : ReportVal) × HasFault l markers source report × PutsFault report status old new needed returned)
    ⊎ (((status ≡ Nothing) × ((output : Output) × HasTree l markers source output)
    × IsLeft old new needed × (returned ≡ before))
    ⊎ (HasNoResult l markers source status × IsLeft old new needed × (returned ≡ before)))

-- the same of a call that asks for a note of the fault: it was put there, or the report has fewer notes; or the source
-- has a tree; or nothing is reported
abbrev pub WritesNote :
    Limits → List ℕ → List ℕ → ℕ → Status → List ℕ → List ℕ → ℕ → Place → Place → Type 0
WritesNote l markers source index status old new needed before returned =
    ((report : ReportVal) × HasFault l markers source report
    × PutsNote report index status old new needed before returned)
    ⊎ (((status ≡ Nothing) × ((output : Output) × HasTree l markers source output)
    × IsLeft old new needed × (returned ≡ before))
    ⊎ (HasNoResult l markers source status × IsLeft old new needed × (returned ≡ before)))
