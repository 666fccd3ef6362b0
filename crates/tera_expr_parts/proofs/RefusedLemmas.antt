-- A token that is refused and was taken: a prefix after a prefix, and a `not` after an operand.
use Rattle.std.proofs.Common.{◌≡◌, ◌≢◌, inl, inr, true, Err, refl, sym, ap, subst, ◌∙◌}
use Rattle.tera_base.specs.Errors.{IsMemory}
use Rattle.tera_base.specs.declared.errors.Error.{Error}
use Rattle.tera_base.specs.declared.utils.Span.{Span}
use Rattle.tera_lexer.specs.grammar.Tokens.{Tok, Items, Ended, Failed, Token}
use Rattle.tera_lexer.specs.code.Cursors.{Position, TakesOne}
use Rattle.tera_lexer.specs.code.Steps.{Stops}
use Rattle.tera_grammar.specs.Reads.{Read, found, stopped, Takes, StopsAt, Fails}
use Rattle.tera_grammar.specs.expressions.Operators as operators
use Rattle.tera_grammar.specs.expressions.Concrete.{NotIn}
use Rattle.tera_grammar.specs.expressions.Marks.{Mark, mark_token, Not, Operation, Other}
use Rattle.tera_grammar.specs.expressions.Reading.Front.{joins, leads_binary, misplaced, front, front_not, front_of_token, front_marks, marked_front, among, begins, begins_sign, same_token, takes}
use Rattle.tera_grammar.proofs.expressions.Fronts.{among_is}
use Rattle.tera_grammar.proofs.stops.Fronts.{takes_ok, takes_stays}
use Rattle.tera_expect.specs.Taking.{TookFirst}

-- a token that is there is taken, unless an allocation fails
untaken : (old new : Position) (e : Error) (t : Tok) (s : Span) (us : Items) → old.left ≡ Token t s us → TakesOne old (Err e) new → IsMemory e
untaken old new e t s us is (inl (ended, reported, same)) = absurd (apart (sym is ∙ ended))
  where
    apart : Token t s us ≡ Ended → ⊥
    apart h = cc
untaken old new e t s us is (inr (unseen, stops, same)) = (subst (λ ts. Stops old.source ts e) is stops).1

sign_first : (ts : Items) → begins_sign ts ≡ true → (t : Tok) × (s : Span) × (us : Items) × (ts ≡ Token t s us)
unfolding begins_sign
sign_first (Token t s us) h = (t, s, us, refl)
sign_first Ended h = cc
sign_first (Failed text here) h = cc

pub sign_untaken : (old new : Position) (e : Error) → TakesOne old (Err e) new → begins_sign old.left ≡ true → IsMemory e
sign_untaken old new e takes sign = let (t, s, us, is) = sign_first old.left sign in untaken old new e t s us is takes

-- a mark that comes next is taken
pub first_there : (m : Mark) (ts : Items) → begins m ts ≡ true → (s : Span) × (us : Items) × (takes m ts ≡ found (s, us))
first_there m Ended h = cc
first_there m (Failed text here) h = cc
first_there m (Token t s us) h = (s, us, rw h refl)

-- what is read does not stop
pub found_stops : {A : Type 0} (o : Read A) (x : A) (left : Items) → o ≡ found x → StopsAt o left → ⊥
found_stops o x left is (inl here) = let e : found x ≡ stopped left = sym is ∙ here in cc
found_stops o x left is (inr (inl (t, s, here))) = let e : found x ≡ stopped (Token t s left) = sym is ∙ here in cc
found_stops o x left is (inr (inr (text, s, here, ended))) = let e : found x ≡ stopped (Failed text s) = sym is ∙ here in cc

pub mark_taken : (m : Mark) (old left : Items) (s : Span) → takes m old ≡ found (s, left) → TookFirst old left
mark_taken m old left s h = (mark_token m, s, takes_ok m old (s, left) h)

pub mark_untaken : (m : Mark) (old left : Items) (e : Error) → Fails (takes m old) left e → begins m old ≡ true → IsMemory e
mark_untaken m old left e (inl memory) there = memory
mark_untaken m old left e (inr stops) there =
    let (s, us, is) = first_there m old there in absurd (found_stops (takes m old) (s, us) left is stops)

-- what comes next is a `not`, where `not in` comes next and where a `not` is misplaced
joins_not : (m : Mark) (s a b : Span) (us vs : Items) → marked_front m s us ≡ joins (leads_binary (NotIn a b)) vs → m ≡ Not
joins_not (Operation o) s a b us vs h = cc
joins_not Not s a b us vs h = refl
joins_not _ s a b us vs h = cc

stray_not : (m : Mark) (s : Span) (us z : Items) → marked_front m s us ≡ misplaced z → (m ≡ Not) × (z ≡ us)
stray_not (Operation o) s us z h = cc
stray_not Not s us z h = (refl, by (takes (Operation operators.In) us) refl h)
  where
    by : (o : Takes Span) → takes (Operation operators.In) us ≡ o → front_not s o ≡ misplaced z → z ≡ us
    by (stopped y) is h = let e : y ≡ z = cc in sym e ∙ takes_stays (Operation operators.In) us y is
    by (found x) is h = cc
stray_not _ s us z h = cc

front_is : (t : Tok) (s : Span) (us : Items) → front (Token t s us) ≡ marked_front (among front_marks t) s us
unfolding front_of_token
front_is t s us = refl

not_there : (t : Tok) (s : Span) (us : Items) → among front_marks t ≡ Not → begins Not (Token t s us) ≡ true
not_there t s us is = ap (λ u. same_token u (mark_token Not)) (among_is front_marks t Not is apart)
  where
    apart : Not ≢ Other
    apart e = cc

pub not_in_begins : (ts us : Items) (a b : Span) → front ts ≡ joins (leads_binary (NotIn a b)) us → begins Not ts ≡ true
not_in_begins (Token t s vs) us a b h = not_there t s vs (joins_not (among front_marks t) s a b vs us (sym (front_is t s vs) ∙ h))
not_in_begins Ended us a b h = cc
not_in_begins (Failed text here) us a b h = cc

pub stray_begins : (ts z : Items) → front ts ≡ misplaced z → begins Not ts ≡ true
stray_begins (Token t s vs) z h = not_there t s vs (stray_not (among front_marks t) s vs z (sym (front_is t s vs) ∙ h)).0
stray_begins Ended z h = cc
stray_begins (Failed text here) z h = cc

-- where it was taken, what is after it is left
pub stray_left : (ts left z : Items) → front ts ≡ misplaced z → TookFirst ts left → z ≡ left
stray_left ts left z h (t, s, is) = (stray_not (among front_marks t) s left z (sym (front_is t s left) ∙ sym (ap front is) ∙ h)).1
