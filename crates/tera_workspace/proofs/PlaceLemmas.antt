-- What is reported for findings that say no place in a file, where the text of that file is another.
use Rattle.std.proofs.Common.{◌≡◌, ◌≢◌, ◌∙◌, ◌<◌, ℕ, zero, suc, List, [], ◌∷◌, ◌||◌, length, get_or, set, map, Bool, true, false, cond, string_bytes, refl, sym, ap, arith}
use Rattle.std.specs.List.{AllByRecursion, list_any}
use Rattle.std.specs.Str.{bytes_eq}
use Rattle.std.proofs.lemmas.Slice.Eq.{bytes_eq-Decides}
use Rattle.tera_findings.specs.Findings.{NoteVal, NoteOf, FindingVal, FoundAs}
use Rattle.text_edits.specs.declared.positions.Encoding.{Encoding}
use Rattle.tera_workspace.specs.Beside.{IsElsewhere, HasNoNoteIn}
use Rattle.tera_workspace.specs.Diagnostics.{RelatedVal, DiagnosticVal, diagnostic_view, related_view, related_of, diagnostic_of, position_in}
use Rattle.tera_workspace.specs.Kept.{is_about}
use Rattle.tera_workspace.specs.Sources.{Source, text_named}
use Rattle.tera_workspace.specs.declared.diagnostics.Diagnostic.{Diagnostic}
use Rattle.tera_workspace.specs.declared.diagnostics.Related.{Related}

-- ---- a test of texts

pub false_true : false ≡ true → ⊥
false_true e = cc

pub apart : (a n : List ℕ) → bytes_eq a n ≡ false → a ≢ n
apart a n e same = false_true (sym e ∙ (bytes_eq-Decides a n).1 same)

false_if : (b : Bool) → (b ≡ true → ⊥) → b ≡ false
false_if true h = absurd (h refl)
false_if false h = refl

pub differ : (a n : List ℕ) → (a ≡ n → ⊥) → bytes_eq a n ≡ false
differ a n h = false_if (bytes_eq a n) (λ e. h ((bytes_eq-Decides a n).0 e))

pub first_false : (b c : Bool) → (b || c) ≡ false → b ≡ false
first_false true c h = h
first_false false c h = refl

pub second_false : (b c : Bool) → (b || c) ≡ false → c ≡ false
second_false true c h = absurd (false_true (sym h))
second_false false c h = h

-- ---- the text of another file

pub other_text : (file name : List ℕ) (ss : List Source) (i : ℕ) (s d : Source) → i < length ss → (get_or ss i d).name ≡ file → s.name ≡ file → (name ≡ file → ⊥)
    → text_named name (set ss i s) ≡ text_named name ss
other_text file name [] i s d within old now other = absurd (omega arith)
other_text file name (x ∷ ss) zero s d within old now other =
    ap (λ b. cond b s.text (text_named name ss)) (differ s.name name (λ e. other (sym e ∙ now)))
    ∙ sym (ap (λ b. cond b x.text (text_named name ss)) (differ x.name name (λ e. other (sym e ∙ old))))
other_text file name (x ∷ ss) (suc i) s d within old now other =
    ap (cond (bytes_eq x.name name) x.text) (other_text file name ss i s d (omega arith) old now other)

module _ (e : Encoding) (file : List ℕ) (before after : List Source) (same : (name : List ℕ) → (name ≡ file → ⊥) → text_named name after ≡ text_named name before) where
  note_same : (note : NoteVal) → IsElsewhere file note → related_of e after note ≡ related_of e before note
  note_same (NoteOf of_file span message) other =
      ap (λ text. record { file = of_file; start = position_in e text span.range.start; end = position_in e text span.range.end; message = message }) (same of_file other)

  notes_same : (notes : List NoteVal) → AllByRecursion (IsElsewhere file) notes → map (related_of e after) notes ≡ map (related_of e before) notes
  notes_same [] h = refl
  notes_same (note ∷ notes) h = λ i. note_same note h.0 i ∷ notes_same notes h.1 i

  finding_same : (text : List ℕ) (f : FindingVal) → HasNoNoteIn file f → diagnostic_of e after text f ≡ diagnostic_of e before text f
  finding_same text (FoundAs kind severity span message notes) h =
      ap (λ related. record { kind = kind; severity = severity; start = position_in e text span.range.start; end = position_in e text span.range.end; message = message; related = related }) (notes_same notes h)

  pub findings_same : (text : List ℕ) (fs : List FindingVal) → AllByRecursion (HasNoNoteIn file) fs → map (diagnostic_of e after text) fs ≡ map (diagnostic_of e before text) fs
  findings_same text [] h = refl
  findings_same text (f ∷ fs) h = λ i. finding_same text f h.0 i ∷ findings_same text fs h.1 i

-- ---- whether a finding says a place in a file, and what was reported for it

abbrev note_in : List ℕ → NoteVal → Bool
note_in file (NoteOf of_file span message) = bytes_eq of_file file

abbrev pub reports : List ℕ → FindingVal → Bool
reports file (FoundAs kind severity span message notes) = list_any (note_in file) notes

notes_beside : (file : List ℕ) (notes : List NoteVal) → list_any (note_in file) notes ≡ false → AllByRecursion (IsElsewhere file) notes
notes_beside file [] h = tt
notes_beside file (NoteOf of_file span message ∷ notes) h =
    (apart of_file file (first_false (bytes_eq of_file file) (list_any (note_in file) notes) h), notes_beside file notes (second_false (bytes_eq of_file file) (list_any (note_in file) notes) h))

one_beside : (file : List ℕ) (f : FindingVal) → reports file f ≡ false → HasNoNoteIn file f
one_beside file (FoundAs kind severity span message notes) h = notes_beside file notes h

pub all_beside : (file : List ℕ) (fs : List FindingVal) → list_any (reports file) fs ≡ false → AllByRecursion (HasNoNoteIn file) fs
all_beside file [] h = tt
all_beside file (f ∷ fs) h =
    (one_beside file f (first_false (reports file f) (list_any (reports file) fs) h), all_beside file fs (second_false (reports file f) (list_any (reports file) fs) h))

-- the same by what is reported
abbrev reported_in : List ℕ → DiagnosticVal → Bool
reported_in file d = list_any (λ (r : RelatedVal). bytes_eq r.file file) d.related

reported_notes : (file : List ℕ) (rs : List Related) → list_any (λ (r : RelatedVal). bytes_eq r.file file) (map related_view rs) ≡ list_any (λ (r : Related). bytes_eq (string_bytes r.file) file) rs
reported_notes file [] = refl
reported_notes file (r ∷ rs) = ap (λ (b : Bool). bytes_eq (string_bytes r.file) file || b) (reported_notes file rs)

reported_all : (file : List ℕ) (ds : List Diagnostic) → list_any (reported_in file) (map diagnostic_view ds) ≡ list_any (is_about file) ds
reported_all file [] = refl
reported_all file (d ∷ ds) = λ i. reported_notes file d.related.items i || reported_all file ds i

report_notes : (e : Encoding) (file : List ℕ) (ss : List Source) (notes : List NoteVal) → list_any (λ (r : RelatedVal). bytes_eq r.file file) (map (related_of e ss) notes) ≡ list_any (note_in file) notes
report_notes e file ss [] = refl
report_notes e file ss (NoteOf of_file span message ∷ notes) = ap (λ (b : Bool). bytes_eq of_file file || b) (report_notes e file ss notes)

report_one : (e : Encoding) (file : List ℕ) (ss : List Source) (text : List ℕ) (f : FindingVal) → reported_in file (diagnostic_of e ss text f) ≡ reports file f
report_one e file ss text (FoundAs kind severity span message notes) = report_notes e file ss notes

report_all : (e : Encoding) (file : List ℕ) (ss : List Source) (text : List ℕ) (fs : List FindingVal) → list_any (reported_in file) (map (diagnostic_of e ss text) fs) ≡ list_any (reports file) fs
report_all e file ss text [] = refl
report_all e file ss text (f ∷ fs) = λ i. report_one e file ss text f i || report_all e file ss text fs i

-- no place in the file was reported, so the findings say none
pub none_reported : (e : Encoding) (file : List ℕ) (ss : List Source) (text : List ℕ) (ds : List Diagnostic) (fs : List FindingVal)
    → map diagnostic_view ds ≡ map (diagnostic_of e ss text) fs → list_any (is_about file) ds ≡ false → list_any (reports file) fs ≡ false
none_reported e file ss text ds fs reported none =
    sym (report_all e file ss text fs) ∙ ap (list_any (reported_in file)) (sym reported) ∙ reported_all file ds ∙ none
