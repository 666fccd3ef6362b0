-- Refusals in the tokens that are left.
use Rattle.std.proofs.Common.{◌≡◌, ℕ, zero, suc, ◌+◌, true, false, List, Err, inl, inr, ⊎_elim, refl, sym, ap, subst, ◌∙◌, arith}
use Rattle.tera_base.proofs.Tellings.{reports_weaker, reports_memory}
use Rattle.tera_base.specs.Errors.{IsMemory, ReportsBy}
use Rattle.tera_base.specs.declared.errors.Error.{Error}
use Rattle.tera_base.specs.declared.utils.Span.{Span}
use Rattle.tera_lexer.specs.code.Cursors.{FaultsFrom, IsLater, Passes, Position, RefusesFrom, TakesOne, is_end, size}
use Rattle.tera_lexer.specs.code.Steps.{Stops}
use Rattle.tera_lexer.specs.grammar.Faults.{Faults}
use Rattle.tera_lexer.specs.grammar.Place.{IsWithin}
use Rattle.tera_lexer.specs.grammar.Tokens.{Ended, Failed, Items, Token}
use Rattle.tera_lexer.proofs.FaultsOfTokens as refusals
use Rattle.tera_lexer.proofs.FaultsOfTokens.{later_faults, lift_faults}
use Rattle.tera_grammar.specs.statements.Reading.TagParts.{front}
use Rattle.tera_tags.specs.Kinds.{kind_of}
use Rattle.tera_expect.specs.Taking.{GoesOn, Refuses, RefusesIn, Took}
use Rattle.tera_tags.specs.declared.fronts.Front.TheVariants as fronts
use Rattle.tera_expect.proofs.NotesLemmas.{notes_later, notes_memory}
use Rattle.tera_expect.proofs.TakingLemmas.{reaches_later, reaches_memory, refused_further, untaken_notes, untaken_reaches}

-- what is refused in the tokens is refused
pub inside_refused : (old new : Position) (e : Error) → RefusesIn old new e → Refuses old new e
unfolding RefusesIn Refuses
inside_refused old new e h = (
  reports_weaker (λ text span. IsWithin old.source span × Faults old.left text span) (λ text span. IsWithin old.source span × FaultsFrom old.span old.left text span) e
      (λ text span f. (f.0, inr (inr f.1))) h.0,
  h.1,
  h.2,
)

pub memory_inside : (old new : Position) (e : Error) → IsMemory e → RefusesIn old new e
unfolding RefusesIn
memory_inside old new e memory = (
  reports_memory (λ text span. IsWithin old.source span × Faults old.left text span) e memory,
  reaches_memory old new e memory,
  notes_memory old.left e memory,
)

pub inside_further : (old mid new : Position) (e : Error) → GoesOn old mid → RefusesIn mid new e → Refuses old new e
inside_further old mid new e goes reported = refused_further old mid new e goes (inside_refused mid new e reported)

-- what is refused at tokens that were taken, or after them
pub took_faults : (old mid : Position) (e : Error) → Took old mid → RefusesFrom mid e → ReportsBy (λ text span. IsWithin old.source span × Faults old.left text span) e
unfolding Took
took_faults old mid e took refused = by took.0.count old.left refl took.0.taken took.0.passes
  where
    by : (n : ℕ) (items : Items) → old.left ≡ items → mid.taken ≡ old.taken + n → Passes n items old.span mid.left mid.span
        → ReportsBy (λ text span. IsWithin old.source span × Faults old.left text span) e
    by zero items is taken (left_is, span_is) = let same : size mid.left ≡ size old.left = ap size (left_is ∙ sym is) in absurd (omega (arith, same, took.1))
    by (suc n) Ended is taken passes = absurd passes
    by (suc n) (Failed text at) is taken passes = absurd passes
    by (suc n) (Token t here items) is taken passes =
        let following : Position = record { source = old.source; left = items; sight = 0; taken = old.taken + 1; span = here } in
        let later : IsLater following mid = record { count = n; source = took.0.source; taken = omega (arith, taken); passes = passes } in
        reports_weaker (λ text span. IsWithin old.source span × FaultsFrom here items text span) (λ text span. IsWithin old.source span × Faults old.left text span) e
        (λ text span f. (f.0, subst (λ ts. Faults ts text span) (sym is) (lift_faults t here items text span f.1))) (refusals.refuses_later following mid e later refused)

pub took_inside : (old mid new : Position) (e : Error) → Took old mid → Refuses mid new e → RefusesIn old new e
unfolding Took Refuses RefusesIn
took_inside old mid new e took h = (took_faults old mid e took h.0, reaches_later old mid new e took.0 h.1, notes_later old mid e took.0 h.2)

passed_faults : (n : ℕ) (items : Items) (last : Span) (left : Items) (here : Span) → Passes n items last left here → (text : List ℕ) (span : Span) → Faults left text span → Faults items text span
passed_faults zero items last left here (left_is, span_is) text span f = subst (λ ts. Faults ts text span) left_is f
passed_faults (suc n) Ended last left here passes text span f = absurd passes
passed_faults (suc n) (Failed reported at) last left here passes text span f = absurd passes
passed_faults (suc n) (Token t at items) last left here passes text span f = later_faults t at items text span (passed_faults n items at left here passes text span f)

pub goes_faults : (old mid : Position) (e : Error) → GoesOn old mid → ReportsBy (λ text span. IsWithin mid.source span × Faults mid.left text span) e
    → ReportsBy (λ text span. IsWithin old.source span × Faults old.left text span) e
unfolding GoesOn
goes_faults old mid e goes reported =
    reports_weaker (λ text span. IsWithin mid.source span × Faults mid.left text span) (λ text span. IsWithin old.source span × Faults old.left text span) e
    (λ text span f. (
      subst (λ s. IsWithin s span) goes.0.source f.0,
      passed_faults goes.0.count old.left old.span mid.left mid.span goes.0.passes text span f.1,
    )) reported

pub goes_inside : (old mid new : Position) (e : Error) → GoesOn old mid → RefusesIn mid new e → RefusesIn old new e
unfolding GoesOn RefusesIn
goes_inside old mid new e goes h = (goes_faults old mid e goes h.0, reaches_later old mid new e goes.0 h.1, notes_later old mid e goes.0 h.2)

pub not_both : true ≡ false → ⊥
not_both h = cc

-- a token is not taken, where the tokens have not ended
pub untaken_inside : (old new : Position) (e : Error) → is_end old.left ≡ false → TakesOne old (Err e) new → RefusesIn old new e
unfolding RefusesIn
untaken_inside old new e some reported = (
  ⊎_elim (λ end. absurd (not_both (ap is_end (sym end.0) ∙ some))) (λ stops. by old.left refl stops.1) reported,
  untaken_reaches old new e reported,
  untaken_notes old new e reported,
)
  where
    by : (items : Items) → old.left ≡ items → Stops old.source items e → ReportsBy (λ text span. IsWithin old.source span × Faults old.left text span) e
    by Ended is stops = absurd stops
    by (Failed reported here) is (within, (reports, none)) =
        reports_weaker (λ text span. (text ≡ reported) × (span ≡ here)) (λ text span. IsWithin old.source span × Faults old.left text span) e
        (λ text span at. rw at.1 (within, rw is (inl (at.0, refl)))) reports
    by (Token t here items) is (takes, memory) = reports_memory (λ text span. IsWithin old.source span × Faults old.left text span) e memory

-- the tokens have not ended where something wrong comes next
pub wrong_left : (ts : Items) → fronts.Wrong ≡ kind_of (front ts) → is_end ts ≡ false
wrong_left Ended h = cc
wrong_left (Failed text span) h = refl
wrong_left (Token t span items) h = refl
