-- Which faults are reported for which tokens.
use Rattle.std.proofs.Common.{◌≡◌, ℕ, zero, suc, ◌+◌, List, inl, inr, ⊎_elim, subst, sym, ◌∙◌, refl, arith}
use Rattle.tera_lexer.specs.grammar.Place.{IsWithin}
use Rattle.tera_lexer.specs.grammar.Tokens.{Tok, Items, Ended, Failed, Token}
use Rattle.tera_lexer.specs.grammar.Faults.{Faults, IsEndAfter, IsEndOf}
use Rattle.tera_lexer.specs.code.Cursors.{Position, IsAt, FaultsFrom, RefusesFrom, Passes, IsLater}
use Rattle.tera_base.specs.declared.utils.Span.{Span}
use Rattle.tera_base.specs.declared.errors.Error.{Error}
use Rattle.tera_base.proofs.Tellings.{reports_weaker}

-- a fault at the next token
at_next : (t : Tok) (here span : Span) (items : Items) (text : List ℕ) → IsAt here span → Faults (Token t here items) text span
at_next t here span items text at = inr (inr (inl (at.0, inl at.1)))

-- the end of the input after some tokens is after the one before them
end_after : (here : Span) (items : Items) (text : List ℕ) (span : Span) → IsEndOf items text span → IsEndAfter here items text span
end_after here Ended text span ends = absurd ends
end_after here (Failed reported at) text span ends = absurd ends
end_after here (Token t at items) text span ends = ends

-- a fault from the next token on is one of the tokens
pub later_faults : (t : Tok) (here : Span) (items : Items) (text : List ℕ) (span : Span) → Faults items text span → Faults (Token t here items) text span
later_faults t here items text span f =
    ⊎_elim (λ lexical. inl lexical) (λ more. inr (⊎_elim (λ ends. inl (end_after here items text span ends)) (λ covers. inr (inr covers)) more)) f

pub lift_faults : (t : Tok) (here : Span) (items : Items) (text : List ℕ) (span : Span) → FaultsFrom here items text span → Faults (Token t here items) text span
lift_faults t here items text span f =
    ⊎_elim (λ at. at_next t here span items text at) (λ more. ⊎_elim (λ ends. inr (inl ends)) (λ later. later_faults t here items text span later) more) f

-- a fault after tokens that were taken is one from these on
passes_faults : (n : ℕ) (items : Items) (last : Span) (left : Items) (here : Span) → Passes n items last left here → (text : List ℕ) (span : Span) → FaultsFrom here left text span → FaultsFrom last items text span
passes_faults zero items last left here (left_is, span_is) text span f = subst (λ l. FaultsFrom last l text span) left_is (subst (λ s. FaultsFrom s left text span) span_is f)
passes_faults (suc n) Ended last left here passes text span f = absurd passes
passes_faults (suc n) (Failed reported at) last left here passes text span f = absurd passes
passes_faults (suc n) (Token t at items) last left here passes text span f = inr (inr (lift_faults t at items text span (passes_faults n items at left here passes text span f)))

passes_on : (n k : ℕ) (items : Items) (last : Span) (mid : Items) (there : Span) (left : Items) (here : Span) → Passes n items last mid there → Passes k mid there left here → Passes (n + k) items last left here
passes_on zero k items last mid there left here (left_is, span_is) more =
    let same : k ≡ zero + k = omega arith in
    subst (λ j. Passes j items last left here) same (subst (λ l. Passes k l last left here) left_is (subst (λ s. Passes k mid s left here) span_is more))
passes_on (suc n) k Ended last mid there left here passes more = absurd passes
passes_on (suc n) k (Failed reported at) last mid there left here passes more = absurd passes
passes_on (suc n) k (Token t at items) last mid there left here passes more =
    let same : suc (n + k) ≡ suc n + k = omega arith in
    subst (λ j. Passes j (Token t at items) last left here) same (passes_on n k items at mid there left here passes more)

-- a cursor that stayed, that took the next token, that went on twice
pub stays_later : (old : Position) → IsLater old old
stays_later old = record { count = 0; source = refl; taken = omega arith; passes = (refl, refl) }

pub token_later : (old mid : Position) (t : Tok) (here : Span) → old.left ≡ Token t here mid.left → mid.span ≡ here → mid.source ≡ old.source → mid.taken ≡ old.taken + 1 → IsLater old mid
token_later old mid t here is last source taken =
    record { count = 1; source = source; taken = taken; passes = subst (λ items. Passes 1 items old.span mid.left mid.span) (sym is) (refl, last) }

pub later_later : (old mid new : Position) → IsLater old mid → IsLater mid new → IsLater old new
later_later old mid new a b =
    record {
      count = a.count + b.count;
      source = b.source ∙ a.source;
      taken = omega (arith, a.taken, b.taken);
      passes = passes_on a.count b.count old.left old.span mid.left mid.span new.left new.span a.passes b.passes;
    }

-- what is refused from there on is refused from here on
pub refuses_later : (old mid : Position) (e : Error) → IsLater old mid → RefusesFrom mid e → RefusesFrom old e
refuses_later old mid e later reported =
    reports_weaker (λ text span. IsWithin mid.source span × FaultsFrom mid.span mid.left text span) (λ text span. IsWithin old.source span × FaultsFrom old.span old.left text span) e
    (λ text span f. (subst (λ s. IsWithin s span) later.source f.0, passes_faults later.count old.left old.span mid.left mid.span later.passes text span f.1)) reported
