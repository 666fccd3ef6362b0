-- What equality of keys, maps, notes and errors decides.
use Rattle.std.proofs.Common.{◌≡◌, Bool, true, false, true≢false, ◌&&◌, List, [], ◌∷◌, length, map, refl, sym, ap, ◌∙◌, arith, rules, ℕ, string_bytes}
use Rattle.std.specs.Bool.{Decides}
use Rattle.std.specs.Cmp.Lexicographic.{pointwise}
use Rattle.std.proofs.lemmas.Slice.Eq.{bytes_eq-Decides}
use Rattle.std.specs.Str.{bytes_eq}
use Rattle.std.specs.Map.{keys_of, values_of}
use Rattle.tera_base.specs.Pairs.{same_key}
use Rattle.tera_base.specs.Same.{value_eq, vals_eq, pairs_eq}
use Rattle.tera_base.specs.ValueView.{value_view, vals_view, pairs_view}
use Rattle.tera_base.specs.declared.values.Key.{Key}
use Rattle.tera_base.specs.declared.values.Value.{Value}
use Rattle.tera_base.specs.contracts.values.KeyPartialEq.TheImpl as derived_eq
use Rattle.tera_base.specs.ErrorView.{NoteVal, ReportVal, ReportOf, ErrorVal, NoMemory, Saying, Reporting, note_view, report_view, kind_view, error_view}
use Rattle.tera_base.specs.declared.utils.Span.{Span}
use Rattle.tera_base.specs.declared.errors.Note.{Note}
use Rattle.tera_base.specs.declared.errors.ReportError.{ReportError}
use Rattle.tera_base.specs.declared.errors.Error.{Error}
use Rattle.tera_base.specs.declared.errors.ErrorKind.{ErrorKind}
use Rattle.tera_base.specs.declared.errors.ErrorKind.TheVariants.{Memory, Message, SyntaxError}
use Rattle.tera_base.specs.contracts.errors.ErrorKindPartialEq.TheImpl as kind_test
use Rattle.tera_base.specs.contracts.utils.SpanPartialEq.TheImpl as span_test
use Rattle.tera_base.specs.contracts.errors.NotePartialEq.TheImpl as note_test
use Rattle.tera_base.specs.contracts.errors.ReportErrorPartialEq.TheImpl as report_test
use Rattle.tera_base.specs.contracts.errors.ErrorPartialEq.TheImpl as error_test
use Rattle.tera_base.proofs.Puts.{derived}
use Rattle.tera_base.proofs.KeysAndValues.{first, rest}

pub derived_keys : (ks ls : List Key) → pointwise ((derived_eq.ghosts).eq) ks ls ≡ pointwise same_key ks ls
derived_keys ks ls i = pointwise (λ k l. derived k l i) ks ls

both : (a b : Bool) → (a && b) ≡ true → (a ≡ true) × (b ≡ true)
both true b e = (refl, e)
both false b e = absurd (true≢false (sym e))

beside : (a b c d : Bool) → (a && (b && (c && d))) ≡ ((a && c) && (b && d))
beside true true c d = refl
beside true false true d = refl
beside true false false d = refl
beside false b c d = refl

-- pairs are the same where the keys are, and what belongs to them
pub keys_then_values : (ps qs : List (Key × Value)) → pairs_eq (pairs_view ps) (pairs_view qs)
    ≡ (pointwise same_key (keys_of ps) (keys_of qs) && vals_eq (vals_view (values_of ps)) (vals_view (values_of qs)))
keys_then_values [] [] = refl
keys_then_values [] (q ∷ qs) = refl
keys_then_values (p ∷ ps) [] = refl
keys_then_values (p ∷ ps) (q ∷ qs) =
    rw (keys_then_values ps qs) (beside (same_key p.0 q.0) (value_eq (value_view p.1) (value_view q.1)) (pointwise same_key (keys_of ps) (keys_of qs)) (vals_eq (vals_view (values_of ps)) (vals_view (values_of qs))))

-- and so tested: first the keys, and then what belongs to them
pub keys_differ : (ps qs : List (Key × Value)) → pointwise same_key (keys_of ps) (keys_of qs) ≡ false → false ≡ pairs_eq (pairs_view ps) (pairs_view qs)
keys_differ ps qs e = sym (keys_then_values ps qs ∙ rw e refl)

pub keys_same : (ps qs : List (Key × Value)) → pointwise same_key (keys_of ps) (keys_of qs) ≡ true → vals_eq (vals_view (values_of ps)) (vals_view (values_of qs)) ≡ pairs_eq (pairs_view ps) (pairs_view qs)
keys_same ps qs e = sym (keys_then_values ps qs ∙ rw e refl)

-- lists are equal by a test where what they mean is
pub views_decide : {A V : Type 0} (view : A → V) (E : A → A → Bool) → ((a b : A) → Decides (E a b) (view a ≡ view b)) → (xs ys : List A) → Decides (pointwise E xs ys) (map view xs ≡ map view ys)
views_decide view E one [] [] = (λ _. refl, λ _. refl)
views_decide view E one [] (y ∷ ys) = (λ e. absurd (true≢false (sym e)), λ e. let n : 0 ≡ length (map view (y ∷ ys)) = ap length e in absurd (omega (arith, n)))
views_decide view E one (x ∷ xs) [] = (λ e. absurd (true≢false (sym e)), λ e. let n : length (map view (x ∷ xs)) ≡ 0 = ap length e in absurd (omega (arith, n)))
views_decide view E one (x ∷ xs) (y ∷ ys) =
    let more = views_decide view E one xs ys in (
      λ e. let p = both (E x y) (pointwise E xs ys) e in rw ((one x y).0 p.0, more.0 p.1),
      λ e. rw ((one x y).1 (ap (first (view x)) e), more.1 (ap rest e)) refl,
    )

abbrev note_eq : Note → Note → Bool
note_eq = (note_test.ghosts).eq

abbrev span_eq : Span → Span → Bool
span_eq = (span_test.ghosts).eq

abbrev report_eq : ReportError → ReportError → Bool
report_eq = (report_test.ghosts).eq

abbrev error_eq : Error → Error → Bool
error_eq = (error_test.ghosts).eq

note_decides : (a b : Note) → Decides (note_eq a b) (note_view a ≡ note_view b)
note_decides a b = search rules

span_decides : (a b : Span) → Decides (span_eq a b) (a ≡ b)
span_decides a b = search rules

notes_decide : (a b : List Note) → Decides (pointwise note_eq a b) (map note_view a ≡ map note_view b)
notes_decide = views_decide note_view note_eq note_decides

text_of : ReportVal → List ℕ
text_of (ReportOf text span notes) = text

span_of : ReportVal → Span → Span
span_of (ReportOf text span notes) d = span

notes_of : ReportVal → List NoteVal
notes_of (ReportOf text span notes) = notes

pub report_decides : (a b : ReportError) → Decides (report_eq a b) (report_view a ≡ report_view b)
unfolding text_of span_of notes_of
report_decides a b =
    let texts = bytes_eq-Decides (string_bytes a.message) (string_bytes b.message) in
    let spans = span_decides a.span b.span in
    let notes = notes_decide a.notes.items b.notes.items in (
      λ e.
          let p = both (bytes_eq (string_bytes a.message) (string_bytes b.message)) _ e in
          let q = both (span_eq a.span b.span) _ p.1 in
          λ i. ReportOf (texts.0 p.0 i) (spans.0 q.0 i) (notes.0 q.1 i),
      λ e. rw (texts.1 (ap text_of e), spans.1 (ap (λ r. span_of r a.span) e), notes.1 (ap notes_of e)) refl,
    )

said_of : ErrorVal → List ℕ
said_of NoMemory = []
said_of (Saying text) = text
said_of (Reporting r) = []

reported_of : ErrorVal → ReportVal → ReportVal
reported_of NoMemory d = d
reported_of (Saying text) d = d
reported_of (Reporting r) d = r

kind_decides : (a b : ErrorKind) → Decides ((kind_test.ghosts).eq a b) (kind_view a ≡ kind_view b)
unfolding said_of reported_of
kind_decides Memory Memory = (λ _. refl, λ _. refl)
kind_decides Memory (Message t) = (λ e. absurd (true≢false (sym e)), λ e. cc)
kind_decides Memory (SyntaxError r) = (λ e. absurd (true≢false (sym e)), λ e. cc)
kind_decides (Message s) Memory = (λ e. absurd (true≢false (sym e)), λ e. cc)
kind_decides (Message s) (Message t) =
    let texts = bytes_eq-Decides (string_bytes s) (string_bytes t) in
    (λ e. ap Saying (texts.0 e), λ e. texts.1 (ap said_of e))
kind_decides (Message s) (SyntaxError r) = (λ e. absurd (true≢false (sym e)), λ e. cc)
kind_decides (SyntaxError q) Memory = (λ e. absurd (true≢false (sym e)), λ e. cc)
kind_decides (SyntaxError q) (Message t) = (λ e. absurd (true≢false (sym e)), λ e. cc)
kind_decides (SyntaxError q) (SyntaxError r) =
    let reports = report_decides q.value r.value in
    (λ e. ap Reporting (reports.0 e), λ e. reports.1 (ap (λ v. reported_of v (report_view q.value)) e))

pub error_decides : (a b : Error) → Decides (error_eq a b) (error_view a ≡ error_view b)
error_decides a b = kind_decides a.kind b.kind
