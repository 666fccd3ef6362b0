-- Sources by the names of their files, and the templates that are read from them.
use Rattle.std.specs.Prelude.{◌≡◌, ◌++◌, ℕ, List, [], ◌∷◌, Bool, true, false, Option, None, Some, IfErr, IfOk, IfSome, if◌then◌else◌, bytes_eq, map, string_bytes}
use Rattle.tera_templates.specs.Templates.{HasHidden}
use Rattle.tera_templates.specs.Ignores.{AreIgnoresIn}
use Rattle.tera_templates.specs.Mended.{IsMended}
use Rattle.tera_templates.specs.declared.templates.Template.{Template}
use Rattle.tera_files.specs.declared.reading.Source.{Source}
use Rattle.tera_grammar.specs.Limits.{usual}
use Rattle.tera_grammar.specs.statements.Top.{Derives}
use Rattle.tera_lexer.specs.declared.lexer.delimiters.Delimiters.{Delimiters}
use Rattle.tera_lexer.specs.grammar.Marks.{Marks, default_marks, marks_of}
use Rattle.tera_parser.specs.Refusal.{LosesSource, Refuses}
use Rattle.tera_tree.specs.Outputs.{output_view}
use Rattle.tera_jobs.specs.declared.reading.Templates.{Templates}
use Rattle.tera_jobs.specs.declared.reading.Unreadable.{Unreadable}

-- what is known of the source of a file
abbrev pub Known : Type 0
Known = List ℕ → Option (List ℕ)

abbrev pub nothing : Known
nothing file = None

abbrev pub with_source : Known → Source → Known
with_source known source file =
    if bytes_eq (string_bytes source.file) file then Some (string_bytes source.text) else known file

-- and with more sources; if several have one name, the last counts
abbrev pub with_sources : Known → List Source → Known
with_sources known [] = known
with_sources known (source ∷ more) = with_sources (with_source known source) more

-- the markers that are used: those that are asked for, or the usual ones
abbrev pub marks_in : Option Delimiters → Marks
marks_in None = default_marks
marks_in (Some markers) = marks_of markers

-- The template is read from the source of a file between markers, and at most so many faults are reported.
pub record IsReadFrom (m : Marks) (file source : List ℕ) (faults : ℕ) (template : Template) : Type 0 where
  pub named : string_bytes template.file ≡ file
  pub read : IfOk template.parsed (λ output. Derives usual m source (output_view output))
  pub refused : IfErr template.parsed (Refuses m source)
  pub lost : IfErr template.parsed (LosesSource usual m source)
  pub mended : IfSome template.mended (IsMended file source faults)
  pub ignores : AreIgnoresIn m source template
  pub hidden : HasHidden template

-- What is kept of a source: itself, or nothing.
abbrev pub AddsKept : Bool → List ℕ → List ℕ → List Source → List Source → Type 0
AddsKept true file text old new =
    (source : Source) × (string_bytes source.file ≡ file) × (string_bytes source.text ≡ text) × (new ≡ old ++ source ∷ [])
AddsKept false file text old new = new ≡ old

-- The template of a file goes after the others, and so does its source, if it is kept.
pub record AddsRead (m : Marks) (file text : List ℕ) (faults : ℕ) (keeps : Bool) (old new : Templates) : Type 0 where
  pub template : Template
  pub read : IsReadFrom m file text faults template
  pub following : new.templates.items ≡ old.templates.items ++ template ∷ []
  pub kept : AddsKept keeps file text old.sources.items new.sources.items

-- a file that could not be read, and why
abbrev pub UnreadVal : Type 0
UnreadVal = List ℕ × List ℕ

abbrev pub unreadable_view : Unreadable → UnreadVal
unreadable_view one = (string_bytes one.file, string_bytes one.why)

-- A file that could not be read goes after the others, with the reason.
pub record AddsUnread (file why : List ℕ) (old new : Templates) : Type 0 where
  pub unread : map unreadable_view new.unread.items ≡ map unreadable_view old.unread.items ++ (file, why) ∷ []
  pub templates : new.templates ≡ old.templates
  pub checked : new.checked ≡ old.checked
