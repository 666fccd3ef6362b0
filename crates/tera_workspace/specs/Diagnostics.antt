-- What is reported for a finding: positions in texts instead of its spans.
use Rattle.std.specs.Prelude.{ℕ, List, map, string_bytes}
use Rattle.text_edits.specs.Lines.{lines_of}
use Rattle.text_edits.specs.Positions.{position_of, boundary_to}
use Rattle.text_edits.specs.declared.positions.Encoding.{Encoding}
use Rattle.text_edits.specs.declared.positions.Position.{Position}
use Rattle.tera_findings.specs.Findings.{NoteVal, NoteOf, FindingVal, FoundAs}
use Rattle.tera_findings.specs.declared.finding.Kind.{Kind}
use Rattle.tera_findings.specs.declared.finding.Severity.{Severity}
use Rattle.tera_workspace.specs.Sources.{Source, text_named}
use Rattle.tera_workspace.specs.declared.diagnostics.Diagnostic.{Diagnostic}
use Rattle.tera_workspace.specs.declared.diagnostics.Related.{Related}

-- a note: a file, the part of its text that explains a finding, and the message
pub record RelatedVal : Type 0 where
  pub file : List ℕ
  pub start : Position
  pub end : Position
  pub message : List ℕ

-- a finding: its kind, its severity, the part of the text that it is about, its message and its notes
pub record DiagnosticVal : Type 0 where
  pub kind : Kind
  pub severity : Severity
  pub start : Position
  pub end : Position
  pub message : List ℕ
  pub related : List RelatedVal

abbrev pub related_view : Related → RelatedVal
related_view r = record { file = string_bytes r.file; start = r.start; end = r.end; message = string_bytes r.message }

abbrev pub diagnostic_view : Diagnostic → DiagnosticVal
diagnostic_view d = record {
  kind = d.kind;
  severity = d.severity;
  start = d.start;
  end = d.end;
  message = string_bytes d.message;
  related = map related_view d.related.items;
}

-- the position of a byte of a text
abbrev pub position_in : Encoding → List ℕ → ℕ → Position
position_in e text byte = position_of e (lines_of text) (boundary_to text byte)

-- what is reported for a note: its span as a part of the text of its file
abbrev pub related_of : Encoding → List Source → NoteVal → RelatedVal
related_of e sources (NoteOf file span message) = record {
  file = file;
  start = position_in e (text_named file sources) span.range.start;
  end = position_in e (text_named file sources) span.range.end;
  message = message;
}

-- and for a finding in a text
abbrev pub diagnostic_of : Encoding → List Source → List ℕ → FindingVal → DiagnosticVal
diagnostic_of e sources text (FoundAs kind severity span message notes) = record {
  kind = kind;
  severity = severity;
  start = position_in e text span.range.start;
  end = position_in e text span.range.end;
  message = message;
  related = map (related_of e sources) notes;
}
