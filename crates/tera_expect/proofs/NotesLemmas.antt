-- The notes of faults: on where a name is defined first.
use Rattle.std.proofs.Common.{◌≡◌, inl, inr, ℕ, zero, suc, List, [], ◌∷◌, ◌++◌, append-nil, map, codes, refl, sym, subst}
use Rattle.std.specs.List.{AllByRecursion}
use Rattle.tera_base.specs.ErrorView.{ErrorVal, NoMemory, Saying, Reporting, ReportOf, NoteVal, NoteOf, error_view, kind_view, note_view}
use Rattle.tera_base.specs.Errors.{HasNoNotes, IsMemory, IsMemoryKind, KindHasNoNotes, KindReports, ReportsBy}
use Rattle.tera_base.proofs.Tellings.{reports_weaker}
use Rattle.tera_base.specs.declared.errors.Error.{Error}
use Rattle.tera_base.specs.declared.errors.ErrorKind.{ErrorKind}
use Rattle.tera_base.specs.declared.errors.ErrorKind.TheVariants.{Memory, Message, SyntaxError}
use Rattle.tera_base.specs.declared.utils.Span.{Span}
use Rattle.tera_lexer.specs.code.Cursors.{IsLater, Passes, Position, ReportsAt}
use Rattle.tera_lexer.specs.grammar.Tokens.{Items, Ended, Failed, Token}
use Rattle.tera_grammar.specs.expressions.Concrete.{Name, name_yield, no_dots}
use Rattle.tera_grammar.specs.expressions.Reading.Front.{taken_name}
use Rattle.tera_grammar.specs.Reads.{found}
use Rattle.tera_grammar.specs.statements.Expressions.{component_span, component_yield}
use Rattle.tera_grammar.specs.statements.Places.{placed_name}
use Rattle.tera_grammar.proofs.Readings.{some_of}
use Rattle.tera_grammar.proofs.expressions.Fronts.{taken_name_ok}
use Rattle.tera_grammar.proofs.stops.Forget.{name_forget}
use Rattle.tera_expect.specs.Notes.{AreLeft, Came, Comes, EachNote, IsFirst, AreFirst, Repeats}
use Rattle.tera_expect.specs.Taking.{GoesOn, IsNoted, Took, name_in, noted_view}

-- tokens that are left
pub left_same : (items : Items) → AreLeft items items
left_same Ended = refl
left_same (Failed text span) = refl
left_same (Token t span items) = inl refl

pub left_further : (left mid items : Items) → AreLeft left mid → AreLeft mid items → AreLeft left items
left_further left mid Ended a is = subst (AreLeft left) is a
left_further left mid (Failed text span) a is = subst (AreLeft left) is a
left_further left mid (Token t span items) a (inl is) = subst (AreLeft left) is a
left_further left mid (Token t span items) a (inr b) = inr (left_further left mid items a b)

passed_left : (n : ℕ) (items : Items) (last : Span) (left : Items) (here : Span) → Passes n items last left here → AreLeft left items
passed_left zero items last left here (left_is, span_is) = subst (AreLeft left) left_is (left_same left)
passed_left (suc n) Ended last left here passes = absurd passes
passed_left (suc n) (Failed reported at) last left here passes = absurd passes
passed_left (suc n) (Token t at items) last left here passes = inr (passed_left n items at left here passes)

pub later_left : (old new : Position) → IsLater old new → AreLeft new.left old.left
later_left old new later = passed_left later.count old.left old.span new.left new.span later.passes

-- what comes among the tokens that are left comes among all
pub comes_further : (name : Name) (left mid items : Items) → AreLeft mid items → Comes name left mid → Comes name left items
comes_further name left mid items ahead (n, is, at) = (n, is, left_further (component_yield n left) mid items at ahead)

pub repeats_further : (mid items : Items) (first span : Span) → AreLeft mid items → Repeats mid first span → Repeats items first span
repeats_further mid items first span ahead (text, between, left, one, two) = (text, between, left, comes_further (name_in text first) between mid items ahead one, two)

first_further : (mid items : Items) (span : Span) (n : NoteVal) → AreLeft mid items → IsFirst mid span n → IsFirst items span n
first_further mid items span (NoteOf label file first) ahead h = λ is. repeats_further mid items first span ahead (h is)

-- what holds of each note
all_weaker : (P Q : NoteVal → Type 0) (ns : List NoteVal) → ((n : NoteVal) → P n → Q n) → AllByRecursion P ns → AllByRecursion Q ns
all_weaker P Q [] weaker all = tt
all_weaker P Q (n ∷ ns) weaker (one, all) = (weaker n one, all_weaker P Q ns weaker all)

one_more : (P : NoteVal → Type 0) (ns : List NoteVal) (n : NoteVal) → AllByRecursion P ns → P n → AllByRecursion P (ns ++ n ∷ [])
one_more P [] n all last = (last, tt)
one_more P (m ∷ ns) n (one, all) last = (one, one_more P ns n all last)

pub each_weaker : (P Q : Span → NoteVal → Type 0) (v : ErrorVal) → ((span : Span) (n : NoteVal) → P span n → Q span n) → EachNote P v → EachNote Q v
each_weaker P Q NoMemory weaker all = tt
each_weaker P Q (Saying text) weaker all = tt
each_weaker P Q (Reporting (ReportOf text span notes)) weaker all = all_weaker (P span) (Q span) notes (weaker span) all

pub notes_further : (mid items : Items) (e : Error) → AreLeft mid items → AreFirst mid e → AreFirst items e
notes_further mid items e ahead all =
    each_weaker (IsFirst mid) (IsFirst items) (error_view e) (λ span n h. first_further mid items span n ahead h) all

pub notes_later : (old mid : Position) (e : Error) → IsLater old mid → AreFirst mid.left e → AreFirst old.left e
notes_later old mid e later all = notes_further mid.left old.left e (later_left old mid later) all

-- errors that have no such note
memory_first : (items : Items) (k : ErrorKind) → IsMemoryKind k → EachNote (IsFirst items) (kind_view k)
memory_first items Memory memory = tt
memory_first items (Message s) memory = tt
memory_first items (SyntaxError b) memory = absurd memory

pub notes_memory : (items : Items) (e : Error) → IsMemory e → AreFirst items e
notes_memory items e memory = memory_first items e.kind memory

none_first : (items : Items) (k : ErrorKind) → KindHasNoNotes k → EachNote (IsFirst items) (kind_view k)
none_first items Memory none = tt
none_first items (Message s) none = tt
none_first items (SyntaxError b) none = subst (λ ns. AllByRecursion (IsFirst items b.value.span) (map note_view ns)) (sym none) tt

pub notes_none : (items : Items) (e : Error) → HasNoNotes e → AreFirst items e
notes_none items e none = none_first items e.kind none

-- a note more
noted_by : (items : Items) (n : NoteVal) (k : ErrorKind) → KindReports (λ text span. IsFirst items span n) k → EachNote (IsFirst items) (kind_view k)
    → EachNote (IsFirst items) (noted_view (kind_view k) n)
noted_by items n Memory first all = tt
noted_by items n (Message s) first all = tt
noted_by items n (SyntaxError b) first all = one_more (IsFirst items b.value.span) (map note_view b.value.notes.items) n all first

pub notes_noted : (items : Items) (d e : Error) (n : NoteVal) → ReportsBy (λ text span. IsFirst items span n) d → IsNoted d n e → AreFirst items d → AreFirst items e
notes_noted items d e n first (inl memory) all = notes_memory items e memory
notes_noted items d e n first (inr same) all = subst (EachNote (IsFirst items)) (sym same) (noted_by items n d.kind first all)

-- names that came before
pub took_left : (old new : Position) → Took old new → AreLeft new.left old.left
unfolding Took
took_left old new took = later_left old new took.0

pub goes_left : (old new : Position) → GoesOn old new → AreLeft new.left old.left
unfolding GoesOn
goes_left old new goes = later_left old new goes.0

pub came_further : (name : Name) (left mid items : Items) → AreLeft left mid → Came name mid items → Came name left items
came_further name left mid items ahead (after, comes, there) = (after, comes, left_further left mid after ahead there)

pub repeated : (text : List ℕ) (first span : Span) (left mid items : Items) → Came (name_in text first) mid items → Comes (name_in text span) left mid → Repeats items first span
repeated text first span left mid items (after, one, ahead) two = (text, after, left, one, comes_further (name_in text span) left mid after ahead two)

-- the fault of such a name
pub reported_first : (items : Items) (label file : List ℕ) (first here : Span) (e : Error) → ReportsAt here e → Repeats items first here
    → ReportsBy (λ text span. IsFirst items span (NoteOf label file first)) e
reported_first items label file first here e reported again =
    reports_weaker (λ text span. span ≡ here) (λ text span. IsFirst items span (NoteOf label file first)) e
    (λ text span is. λ named. subst (Repeats items first) (sym is) again) reported

-- a note with another label
pub other_label : (P : List ℕ → Span → Type 0) (items : Items) (label file : List ℕ) (first : Span) (e : Error) → (label ≡ codes "first defined here" → ⊥) → ReportsBy P e
    → ReportsBy (λ text span. IsFirst items span (NoteOf label file first)) e
other_label P items label file first e other reported =
    reports_weaker P (λ text span. IsFirst items span (NoteOf label file first)) e (λ text span h. λ named. absurd (other named)) reported

-- a name without dots
name_comes : (n : Name) (left : Items) → Comes n left (name_yield n left)
unfolding component_span
name_comes n left =
    let same : placed_name (record { name = n; further = no_dots }) ≡ n = (λ i. record { text = append-nil n.text i; span = n.span }) in
    (record { name = n; further = no_dots }, same, left_same (name_yield n left))

-- a name that was taken
pub taken_comes : (n : Name) (left items : Items) → taken_name items ≡ found (n, left) → Comes n left items
taken_comes n left items taken = subst (Comes n left) (sym (taken_name_ok items (n, left) (some_of _ _ (name_forget items) (n, left) taken))) (name_comes n left)
