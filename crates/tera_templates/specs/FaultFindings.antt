-- The findings of the faults of a template.
use Rattle.std.specs.Prelude.{◌≡◌, ◌⊎◌, ◌≤◌, ◌<◌, ◌+◌, ◌^◌, ◌||◌, ℕ, Bool, true, false, List, [], ◌∷◌, ◌++◌, codes, drop, length, nat_le, string_bytes, take, Option, None, Some, Result, Ok, Err}
use Rattle.std.specs.List.Sorted.{IsPermutation}
use Rattle.std.specs.Str.{IsCharBoundary}
use Rattle.tera_base.specs.ErrorView.{ErrorVal, NoMemory, Saying, Reporting, ReportVal, ReportOf, error_view}
use Rattle.tera_base.specs.declared.errors.Error.{Error}
use Rattle.tera_base.specs.declared.utils.Span.{Span}
use Rattle.tera_lexer.specs.grammar.Place.{place_after, span_of}
use Rattle.tera_lexer.specs.declared.lexer.place.Place.{Place}
use Rattle.tera_mend.specs.declared.mending.Fault.{Fault}
use Rattle.tera_tree.specs.declared.outputs.ParserOutput.{ParserOutput}
use Rattle.tera_findings.specs.Findings.{NoteVal, NoteOf, FindingVal, FoundAs, IsOfError, hint_notes}
use Rattle.tera_templates.specs.Hints.{hint_in}
use Rattle.tera_templates.specs.declared.causes.Cause.{Cause}
use Rattle.tera_templates.specs.declared.causes.Says.{Says}
use Rattle.tera_templates.specs.declared.causes.Says.TheVariants.{NotClosed, ClosesNothing, BelongsToNothing, NoEnd, Nothing}
use Rattle.tera_templates.specs.declared.mended.Mended.{Mended}
use Rattle.tera_templates.specs.declared.templates.Template.{Template}
use Rattle.tera_templates.specs.declared.walk.Walk.{Walk}

-- ---- what a fault comes of: a word of the source, and what is said of it

-- the text of the note where a fault was met, if its tag has no end
abbrev pub met_text : List ℕ
met_text = codes "found here, because the tag is not closed"

abbrev pub not_closed_text : List ℕ → List ℕ
not_closed_text word = codes "`" ++ (word ++ codes "` opened here is not closed")

abbrev pub closes_nothing_text : List ℕ → List ℕ
closes_nothing_text word = codes "`" ++ (word ++ codes "` closes nothing")

abbrev pub belongs_to_nothing_text : List ℕ → List ℕ
belongs_to_nothing_text word = codes "`" ++ (word ++ codes "` matches no open tag")

-- the note on the cause: a word at a place, for a fault that was met at a span
abbrev pub cause_notes : List ℕ → Span → Span → List ℕ → Says → List NoteVal
cause_notes file at place word NotClosed = NoteOf file place (not_closed_text word) ∷ []
cause_notes file at place word ClosesNothing = NoteOf file place (closes_nothing_text word) ∷ []
cause_notes file at place word BelongsToNothing = NoteOf file place (belongs_to_nothing_text word) ∷ []
cause_notes file at place word NoEnd = NoteOf file at met_text ∷ []
cause_notes file at place word Nothing = []

-- the tag of the word has no end
abbrev pub has_no_end : Says → Bool
has_no_end NoEnd = true
has_no_end _ = false

-- The span of the finding: where the fault was met; or the span of the word, if the fault is at the end of the source
-- or after it, or if the tag has no end.
abbrev pub span_by : Bool → Span → Span → Span
span_by true at place = place
span_by false at place = at

abbrev pub span_with : List ℕ → Span → Says → Span → Span
span_with source at says place = span_by (nat_le (length source) at.range.start || has_no_end says) at place

-- ---- a fault

-- the text that there are more faults than are reported, if there are
abbrev pub more_text : List ℕ
more_text = codes "there are more faults: the rest of the file is not checked"

abbrev pub more_if : Bool → Option (List ℕ)
more_if true = Some more_text
more_if false = None

-- the hint for a fault with a message, at a byte: it looks at the source before the byte and from there on; there is
-- none if no character of the source begins there
abbrev pub IsHintAt : List ℕ → List ℕ → ℕ → Option (List ℕ) → Type 0
IsHintAt source message at hint =
    (hint ≡ hint_in message (take at source) (drop at source)) ⊎ ((IsCharBoundary source at → ⊥) × (hint ≡ None))

abbrev pub IsHintFor : List ℕ → FindingVal → Option (List ℕ) → Type 0
IsHintFor source (FoundAs kind severity at text notes) hint = IsHintAt source text at.range.start hint

-- a finding of a fault, with its cause: its notes are followed by the hint, by the cause, and by the note that there
-- are more
abbrev pub with_cause : List ℕ → List ℕ → Span → List ℕ → Says → Option (List ℕ) → Bool → FindingVal → FindingVal
with_cause file source place word says hint more (FoundAs kind severity at text notes) =
    FoundAs kind severity (span_with source at says place) text
    (((notes ++ hint_notes file (span_with source at says place) hint) ++ cause_notes file at place word says)
    ++ hint_notes file (span_with source at says place) (more_if more))

-- the span is that of a part of the source
pub record IsPartOf (source : List ℕ) (span : Span) (part : List ℕ) : Type 0 where
  pub before : List ℕ
  pub after : List ℕ
  pub is : source ≡ before ++ (part ++ after)
  pub at : span ≡ span_of before part

-- It is the finding of the error in the file of a name, with the cause of the fault: a word of the source, if something
-- is said of it.
pub record IsOfFaultBy (file source : List ℕ) (error : ErrorVal) (f : FindingVal) : Type 0 where
  pub alone : FindingVal
  pub of_error : IsOfError file error alone
  pub place : Span
  pub word : List ℕ
  pub here : IsPartOf source place word
  pub says : Says
  pub hint : Option (List ℕ)
  pub for_it : IsHintFor source alone hint
  pub more : Bool
  pub is : f ≡ with_cause file source place word says hint more alone

-- the byte with which it begins; an error without a place has none
abbrev pub start_of_report : ReportVal → ℕ
start_of_report (ReportOf text at notes) = at.range.start

abbrev pub start_by : ErrorVal → ℕ
start_by NoMemory = 0
start_by (Saying text) = 0
start_by (Reporting r) = start_of_report r

abbrev pub start_of : Fault → ℕ
start_of f = start_by (error_view f.error)

-- ---- all faults

-- a finding of each fault, in their order
abbrev pub AreOfEach : List ℕ → List ℕ → List Fault → List FindingVal → Type 0
AreOfEach file source [] [] = Unit {0}
AreOfEach file source [] (f ∷ fs) = ⊥
AreOfEach file source (e ∷ es) [] = ⊥
AreOfEach file source (e ∷ es) (f ∷ fs) = IsOfFaultBy file source (error_view e.error) f × AreOfEach file source es fs

-- .. and in any order
abbrev pub AreOfFaults : List ℕ → Mended → List FindingVal → Type 0
AreOfFaults file m fs =
    (each : List FindingVal) × AreOfEach file (string_bytes m.source) m.faults.items each × IsPermutation each fs

-- the faults of a template: none if it was parsed, and one if the others were not looked for
abbrev pub AreFaultsBy : List ℕ → Result ParserOutput Error → Option Mended → List FindingVal → Type 0
AreFaultsBy file (Ok o) m fs = fs ≡ []
AreFaultsBy file (Err e) None fs = (f : FindingVal) × (fs ≡ f ∷ []) × IsOfError file (error_view e) f
AreFaultsBy file (Err e) (Some m) fs = AreOfFaults file m fs

abbrev pub AreFaultsOf : Template → List FindingVal → Type 0
AreFaultsOf t fs = AreFaultsBy (string_bytes t.file) t.parsed t.mended fs

-- ---- how the program goes

-- a place, as the lexer has it
abbrev pub walk_view : Walk → Place
walk_view w = record { line = w.line; column = w.column; byte = w.byte }

-- it is a place of the text: that of its byte
abbrev pub IsAt : List ℕ → Walk → Type 0
IsAt text w = walk_view w ≡ place_after (take w.byte text)

-- the word of a cause is in the source, from its first byte on
pub record IsWordOf (source : List ℕ) (c : Cause) : Type 0 where
  pub within : c.start + length c.word.now ≤ length source
  pub fits : c.start + length c.word.now < 2 ^ 64
  pub is : take (length c.word.now) (drop c.start source) ≡ c.word.now
