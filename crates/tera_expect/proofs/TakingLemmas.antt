-- How cursors go on, and what is refused on the way.
use Rattle.std.proofs.Common.{IfErr, IfOk, Result, Ok, Err, ◌≡◌, ℕ, zero, suc, ◌<◌, ◌≤◌, le_refl, Bool, true, false, List, codes, inl, inr, refl, subst, sym, arith}
use Rattle.tera_base.specs.declared.utils.Span.{Span}
use Rattle.tera_base.specs.declared.errors.Error.{Error}
use Rattle.tera_base.specs.ErrorView.{NoteOf, NoteVal}
use Rattle.tera_base.specs.Errors.{HasNoNotes, IsMemory, KindReports, ReportsBy, end_of}
use Rattle.tera_base.specs.declared.errors.ErrorKind.{ErrorKind}
use Rattle.tera_base.specs.declared.errors.ErrorKind.TheVariants.{Memory, Message, SyntaxError}
use Rattle.tera_base.proofs.Tellings.{reports_weaker, reports_memory}
use Rattle.tera_lexer.specs.grammar.Place.{IsWithin}
use Rattle.tera_lexer.specs.grammar.Lexed.{EachNumber, IsCount}
use Rattle.tera_lexer.specs.grammar.Tokens as toks
use Rattle.tera_lexer.specs.grammar.Faults.{IsFaultOf}
use Rattle.tera_lexer.specs.grammar.Tokens.{Tok, Items, Ended, Failed, Token}
use Rattle.tera_lexer.specs.code.Steps.{Stops}
use Rattle.tera_lexer.specs.declared.lexer.tokens.Token.{Token as Lexed}
use Rattle.tera_lexer.specs.code.Cursors.{Position, ReportsAt, FaultsFrom, IsLater, Passes, RefusesFrom, TakesOne, size}
use Rattle.tera_lexer.proofs.FaultsOfTokens as refusals
use Rattle.tera_grammar.specs.Reads.{Takes}
use Rattle.tera_expect.specs.Notes.{IsFirst, AreFirst, Repeats}
use Rattle.tera_expect.specs.Taking.{Eats, GoesOn, IsCounted, IsNoted, Took, Reaches, Refuses, Reported, no_memory, says, reports, kind_reported, ReportsAs}
use Rattle.tera_expect.proofs.NotesLemmas.{notes_later, notes_memory, notes_none, notes_noted, other_label, reported_first}

pub goes_further : (old mid new : Position) → GoesOn old mid → GoesOn mid new → GoesOn old new
unfolding GoesOn
goes_further old mid new a b = (refusals.later_later old mid new a.0 b.0, omega (arith, a.1, b.1))

pub took_goes : (old new : Position) → Took old new → GoesOn old new
unfolding GoesOn Took
took_goes old new a = (a.0, omega (arith, a.1))

pub took_further : (old mid new : Position) → Took old mid → GoesOn mid new → Took old new
unfolding GoesOn Took
took_further old mid new a b = (refusals.later_later old mid new a.0 b.0, omega (arith, a.1, b.1))

pub goes_took : (old mid new : Position) → GoesOn old mid → Took mid new → Took old new
unfolding GoesOn Took
goes_took old mid new a b = (refusals.later_later old mid new a.0 b.0, omega (arith, a.1, b.1))

pub took_all : (old mid new : Position) → Took old mid → Took mid new → Took old new
unfolding Took
took_all old mid new a b = (refusals.later_later old mid new a.0 b.0, omega (arith, a.1, b.1))

-- a cursor that took nothing
pub stays : (p : Position) → GoesOn p p
unfolding GoesOn
stays p = (refusals.stays_later p, omega arith)

-- the fault in which tokens end is that in which those after them end
fault_passed : (n : ℕ) (items : Items) (last : Span) (left : Items) (here : Span) → Passes n items last left here
    → (text : List ℕ) (span : Span) → IsFaultOf left text span → IsFaultOf items text span
fault_passed zero items last left here (left_is, span_is) text span f = subst (λ ts. IsFaultOf ts text span) left_is f
fault_passed (suc n) Ended last left here passes text span f = absurd passes
fault_passed (suc n) (Failed reported at) last left here passes text span f = absurd passes
fault_passed (suc n) (Token t at items) last left here passes text span f = fault_passed n items at left here passes text span f

-- how far errors reach
pub reaches_later : (old mid new : Position) (e : Error) → IsLater old mid → Reaches mid new e → Reaches old new e
reaches_later old mid new e later (inl (more, reported)) = inl (refusals.later_later old mid new later more, reported)
reaches_later old mid new e later (inr fault) =
    inr (reports_weaker (λ text span. IsFaultOf mid.left text span) (λ text span. IsFaultOf old.left text span) e
    (λ text span f. fault_passed later.count old.left old.span mid.left mid.span later.passes text span f) fault)

pub reaches_memory : (old new : Position) (e : Error) → IsMemory e → Reaches old new e
reaches_memory old new e memory = inr (reports_memory (λ text span. IsFaultOf old.left text span) e memory)

pub reaches_last : (old new : Position) (e : Error) → IsLater old new → ReportsAt new.span e → Reaches old new e
reaches_last old new e later reported =
    inl (
      later,
      reports_weaker (λ text span. span ≡ new.span) (λ text span. new.span.range.end ≤ span.range.end) e
          (λ text span is. subst (λ (s : Span). new.span.range.end ≤ s.range.end) (sym is) (le_refl new.span.range.end)) reported,
    )

pub refused_after : (old mid new : Position) (e : Error) → Took old mid → Refuses mid new e → Refuses old new e
unfolding Took Refuses
refused_after old mid new e a b =
    (refusals.refuses_later old mid e a.0 b.0, reaches_later old mid new e a.0 b.1, notes_later old mid e a.0 b.2)

pub refused_further : (old mid new : Position) (e : Error) → GoesOn old mid → Refuses mid new e → Refuses old new e
unfolding GoesOn Refuses
refused_further old mid new e a b =
    (refusals.refuses_later old mid e a.0 b.0, reaches_later old mid new e a.0 b.1, notes_later old mid e a.0 b.2)

pub memory_refused : (old new : Position) (e : Error) → IsMemory e → Refuses old new e
unfolding Refuses
memory_refused old new e memory = (
  reports_memory (λ text span. IsWithin old.source span × FaultsFrom old.span old.left text span) e memory,
  reaches_memory old new e memory,
  notes_memory old.left e memory,
)

-- after tokens that were taken
pub ruleset after_tokens = (took_all, refused_after, memory_refused)

-- after tokens that were taken, or none
pub ruleset on_the_way = (took_all, took_further, goes_took, goes_further, took_goes, stays, refused_after, refused_further, memory_refused)

pub last_refused : (p : Position) (e : Error) → IsWithin p.source p.span → ReportsAt p.span e → HasNoNotes e → Refuses p p e
unfolding Refuses
last_refused p e within reported none = (
  reports_weaker (λ text span. span ≡ p.span) (λ text span. IsWithin p.source span × FaultsFrom p.span p.left text span) e
      (λ text span is. let back = sym is in subst (λ s. IsWithin p.source s × FaultsFrom p.span p.left text s) back (within, inl ((refl, refl, refl), (refl, refl, refl)))) reported,
  reaches_last p p e (refusals.stays_later p) reported,
  notes_none p.left e none,
)

-- a fault at the token that was taken
pub token_refused : (old new : Position) (t : Tok) (s : Span) (e : Error) → old.left ≡ Token t s new.left → new.span ≡ s → IsWithin old.source s → IsLater old new
    → ReportsAt s e → HasNoNotes e → Refuses old new e
unfolding Refuses
token_refused old new t s e taken last within later reported none = (
  reports_weaker (λ text span. span ≡ s) (λ text span. IsWithin old.source span × FaultsFrom old.span old.left text span) e
      (λ text span is. subst (λ r. IsWithin old.source r × FaultsFrom old.span old.left text r) (sym is)
      (within, subst (λ ts. FaultsFrom old.span ts text s) (sym taken) (inr (inr (inr (inr (inl ((refl, refl, refl), inl (refl, refl, refl))))))))) reported,
  reaches_last old new e later (subst (λ r. ReportsAt r e) (sym last) reported),
  notes_none old.left e none,
)

-- no token was taken: the end of the input, the fault in which the tokens end, or an allocation that failed
stopped_fault : (source : List ℕ) (items : Items) (e : Error) → Stops source items e → ReportsBy (λ text span. IsFaultOf items text span) e
stopped_fault source Ended e stops = absurd stops
stopped_fault source (Failed reported here) e (within, (there, none)) =
    reports_weaker (λ text span. (text ≡ reported) × (span ≡ here)) (λ text span. IsFaultOf (Failed reported here) text span) e (λ text span at. at) there
stopped_fault source (Token t here items) e (takes, memory) = reports_memory (λ text span. IsFaultOf (Token t here items) text span) e memory

pub untaken_reaches : (old new : Position) (e : Error) → TakesOne old (Err e) new → Reaches old new e
untaken_reaches old new e (inl (ended, (reported, none), same)) =
    inl (
      subst (IsLater old) (sym same) (refusals.stays_later old),
      reports_weaker (λ text span. (text ≡ codes "Unexpected end of input") × (span ≡ end_of old.span)) (λ text span. new.span.range.end ≤ span.range.end) e
          (λ text span at. subst (λ (s : Span). new.span.range.end ≤ s.range.end) (sym at.1)
          (subst (λ (p : Position). p.span.range.end ≤ old.span.range.end) (sym same) (le_refl old.span.range.end))) reported,
    )
untaken_reaches old new e (inr (unseen, stops, same)) = inr (stopped_fault old.source old.left e stops)

stopped_notes : (source : List ℕ) (items mid : Items) (e : Error) → Stops source items e → AreFirst mid e
stopped_notes source Ended mid e stops = absurd stops
stopped_notes source (Failed reported here) mid e (within, (there, none)) = notes_none mid e none
stopped_notes source (Token t here items) mid e (takes, memory) = notes_memory mid e memory

pub untaken_notes : (old new : Position) (e : Error) → TakesOne old (Err e) new → AreFirst old.left e
untaken_notes old new e (inl (ended, (reported, none), same)) = notes_none old.left e none
untaken_notes old new e (inr (unseen, stops, same)) = stopped_notes old.source old.left old.left e stops

pub untaken_refused : (old new : Position) (e : Error) → TakesOne old (Err e) new → RefusesFrom old e → Refuses old new e
unfolding Refuses
untaken_refused old new e takes reported = (reported, untaken_reaches old new e takes, untaken_notes old new e takes)

pub untaken_refused_err : (r : Result (Lexed × Span) Error) (old new : Position) → TakesOne old r new → IfErr r (RefusesFrom old) → IfErr r (Refuses old new)
untaken_refused_err (Ok x) old new takes reported = tt
untaken_refused_err (Err e) old new takes reported = untaken_refused old new e takes reported

-- what outermost calls promise
pub refused : (old new : Position) (e : Error) → Refuses old new e → RefusesFrom old e
unfolding Refuses
refused old new e h = h.0

pub later : (old new : Position) → Took old new → IsLater old new
unfolding Took
later old new h = h.0

-- what says the same is refused too
abbrev Holds : (List ℕ → Span → Type 0) → Reported → Type 0
Holds P no_memory = Unit {0}
Holds P (says text) = ⊥
Holds P (reports text span) = P text span

by_kind : (P : List ℕ → Span → Type 0) (k l : ErrorKind) → kind_reported l ≡ kind_reported k → KindReports P k → KindReports P l
by_kind P Memory Memory e h = tt
by_kind P (SyntaxError b) (SyntaxError d) e h =
    subst (λ t. Holds P t) (sym e) h
by_kind P Memory (Message s) e h = cc
by_kind P Memory (SyntaxError d) e h = cc
by_kind P (SyntaxError b) Memory e h = tt
by_kind P (SyntaxError b) (Message s) e h = cc
by_kind P (Message s) _ e h = absurd h

kind_reaches : (old new : Position) (d e : Error) → kind_reported e.kind ≡ kind_reported d.kind → Reaches old new d → Reaches old new e
kind_reaches old new d e same (inl (later, reported)) = inl (later, by_kind (λ text span. new.span.range.end ≤ span.range.end) d.kind e.kind same reported)
kind_reaches old new d e same (inr fault) = inr (by_kind (λ text span. IsFaultOf old.left text span) d.kind e.kind same fault)

pub same_reaches : (old new : Position) (d e : Error) → ReportsAs d e → Reaches old new d → Reaches old new e
same_reaches old new d e (inl memory) h = reaches_memory old new e memory
same_reaches old new d e (inr same) h = kind_reaches old new d e same h

pub same_from : (old : Position) (d e : Error) → ReportsAs d e → RefusesFrom old d → RefusesFrom old e
same_from old d e (inl memory) h = reports_memory (λ text span. IsWithin old.source span × FaultsFrom old.span old.left text span) e memory
same_from old d e (inr same) h = by_kind (λ text span. IsWithin old.source span × FaultsFrom old.span old.left text span) d.kind e.kind same h

-- with a note more
pub noted_refused : (old new : Position) (d e : Error) (n : NoteVal) → ReportsBy (λ text span. IsFirst old.left span n) d → IsNoted d n e → ReportsAs d e
    → Refuses old new d → Refuses old new e
unfolding Refuses
noted_refused old new d e n first noted same h = (same_from old d e same h.0, same_reaches old new d e same h.1, notes_noted old.left d e n first noted h.2)

-- a note that is not on where a name is defined first
pub other_noted : (old new : Position) (d e : Error) (label file : List ℕ) (at : Span) → (label ≡ codes "first defined here" → ⊥) → IsNoted d (NoteOf label file at) e → ReportsAs d e
    → Refuses old new d → Refuses old new e
unfolding Refuses
other_noted old new d e label file at other noted same h =
    noted_refused old new d e (NoteOf label file at)
    (other_label (λ text span. IsWithin old.source span × FaultsFrom old.span old.left text span) old.left label file at d other h.0) noted same h

-- a name that came before
pub repeated_refused : (old new : Position) (d e : Error) (label file : List ℕ) (first : Span) → Repeats old.left first new.span → ReportsAt new.span d → IsNoted d (NoteOf label file first) e → ReportsAs d e
    → Refuses old new d → Refuses old new e
repeated_refused old new d e label file first again reported noted same h =
    noted_refused old new d e (NoteOf label file first) (reported_first old.left label file first new.span d reported again) noted same h

-- how many tokens are left
pub took_size : (old new : Position) → Took old new → size new.left < size old.left
unfolding Took
took_size old new h = h.1

pub goes_size : (old new : Position) → GoesOn old new → size new.left ≤ size old.left
unfolding GoesOn
goes_size old new h = h.1

-- the number that was taken
pub counted : (t : Tok) (s : Span) (us : Items) (ts : Items) → EachNumber IsCount ts → ts ≡ Token t s us → IsCounted t
counted t s us ts all is = by t (subst (EachNumber IsCount) is all)
  where
    by : (t : Tok) → EachNumber IsCount (Token t s us) → IsCounted t
    by (toks.Integer n) h = h.0
    by _ h = tt

-- a call that may take no token, after some that were taken
pub goes_all_ok : {A : Type 0} (r : Result A Error) (old mid new : Position) → Took old mid → IfOk r (λ x. GoesOn mid new) → IfOk r (λ x. GoesOn old new)
goes_all_ok (Ok x) old mid new a b = goes_further old mid new (took_goes old mid a) b
goes_all_ok (Err e) old mid new a b = tt

-- a call after tokens that were taken, or none
pub goes_took_ok : {A : Type 0} (r : Result A Error) (old mid new : Position) → GoesOn old mid → IfOk r (λ x. Took mid new) → IfOk r (λ x. Took old new)
goes_took_ok (Ok x) old mid new a b = goes_took old mid new a b
goes_took_ok (Err e) old mid new a b = tt

pub refused_further_err : {A : Type 0} (r : Result A Error) (old mid new : Position) → GoesOn old mid → IfErr r (Refuses mid new) → IfErr r (Refuses old new)
refused_further_err (Ok x) old mid new a b = tt
refused_further_err (Err e) old mid new a b = refused_further old mid new e a b

-- a token that was taken or not
pub eats_size : (b : Bool) (old new : Position) (read : Takes Span) → Eats b old new read → size new.left ≤ size old.left
unfolding Took
eats_size true old new read (taken, took) = omega (arith, took.1)
eats_size false old new read (none, same) = subst (λ (q : Position). size q.left ≤ size old.left) (sym same) (omega arith)
