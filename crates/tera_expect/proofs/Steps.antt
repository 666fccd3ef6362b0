-- Steps of a reading, one after another.
use Rattle.std.proofs.Common.{◌≡◌, ◌⊎◌, inl, inr, ℕ, List, Bool, true, false, Some, None, Result, Ok, Err, refl, sym, ap, ◌∙◌}
use Rattle.tera_base.specs.declared.errors.Error.{Error}
use Rattle.tera_base.specs.declared.utils.Span.{Span}
use Rattle.tera_base.specs.Errors.{IsMemory}
use Rattle.tera_lexer.specs.code.Cursors.{Position, TakesOne}
use Rattle.tera_lexer.specs.code.Steps.{Stops}
use Rattle.tera_lexer.specs.grammar.Tokens.{Items, Ended, Failed, Token}
use Rattle.tera_grammar.specs.Reads.{Read, found, stopped, ◌>>=◌, holds, StopsAt, Fails}
use Rattle.tera_grammar.specs.expressions.Marks.{Mark}
use Rattle.tera_grammar.specs.expressions.Concrete.{Name}
use Rattle.tera_grammar.specs.expressions.Reading.Front.{at, takes, skip, lowered, taken_name, name_of}
use Rattle.tera_grammar.specs.expressions.Reading.Bracketed.{linked}
use Rattle.tera_grammar.proofs.Readings.{fails_as}
use Rattle.tera_expect.specs.Taking.{Passes}

pub failed : {A B : Type 0} (o : Read A) (f : A → Read B) (left : Items) (e : Error) → Fails o left e → Fails (o >>= f) left e
failed o f left e h = fails_as o (o >>= f) left e (λ z is. ap (λ o. o >>= f) is) h

pub failed_past : {A B : Type 0} (o : Read A) (f : A → Read B) (x : A) (left : Items) (e : Error) → o ≡ found x → Fails (f x) left e → Fails (o >>= f) left e
failed_past o f x left e is h = fails_as (f x) (o >>= f) left e (λ z none. ap (λ o. o >>= f) is ∙ none) h

-- what fails fails under another name
pub failed_as : {A B : Type 0} (o : Read A) (r : Read B) (left : Items) (e : Error) → ((z : Items) → o ≡ stopped z → r ≡ stopped z) → Fails o left e → Fails r left e
failed_as o r left e same h = fails_as o r left e same h

-- the last step makes the whole of what it reads
pub passed : {E T S : Type 0} (make : T → S) (r : Result E Error) (left : Items) (o : Read (T × Items)) → Passes r left o → Passes r left (o >>= λ x. found (make x.0, x.1))
passed make (Ok u) left o (t, read) = (make t, ap (λ o. o >>= λ x. found (make x.0, x.1)) read)
passed make (Err e) left o h = failed o (λ x. found (make x.0, x.1)) left e h

-- a token that had to come and did not, where none is read
pub untaken : {A : Type 0} (read : Items → Read A) (old new : Position) (e : Error) → read Ended ≡ stopped Ended
    → ((text : List ℕ) (span : Span) → read (Failed text span) ≡ stopped (Failed text span)) → TakesOne old (Err e) new → Fails (read old.left) new.left e
untaken read old new e ended failed (inl h) = inr (inl (ap read h.0 ∙ ended ∙ ap stopped (sym h.0 ∙ ap (λ (p : Position). p.left) (sym h.2))))
untaken read old new e ended failed (inr h) = stops old.left h.1 (ap (λ (p : Position). p.left) h.2)
  where
    stops : (ts : Items) → Stops old.source ts e → new.left ≡ Ended → Fails (read ts) new.left e
    stops Ended s none = absurd s
    stops (Failed text span) s none = inr (inr (inr (text, span, failed text span, none)))
    stops (Token t span items) s none = inl s.1

-- what fails where something holds
pub fails_by : {B P : Type 0} (r : Read B) (left : Items) (e : Error) → (P → StopsAt r left) → IsMemory e ⊎ P → Fails r left e
fails_by r left e refuses (inl memory) = inl memory
fails_by r left e refuses (inr h) = inr (refuses h)

-- a test after a step
test_kept : {A B : Type 0} (z : Items) (b : Bool) (x : A) (k : A → Read B) → (holds z b >>= λ u. k x) ≡ ((holds z b >>= λ u. found x) >>= k)
test_kept z true x k = refl
test_kept z false x k = refl

pub kept_by : {A B : Type 0} (o : Read A) (here : A → Items) (test : A → Bool) (k : A → Read B)
    → (o >>= λ x. holds (here x) (test x) >>= λ u. k x) ≡ ((o >>= λ x. holds (here x) (test x) >>= λ u. found x) >>= k)
kept_by (stopped z) here test k = refl
kept_by (found x) here test k = test_kept (here x) (test x) x k

-- a mark
pub skipped : (m : Mark) (k : ℕ) (ts us : Items) (s : Span) → takes m ts ≡ found (s, us) → skip m (at k ts) ≡ found (s, at k us)
unfolding skip
skipped m k ts us s h = rw h refl

pub unskipped : (m : Mark) (k : ℕ) (ts z : Items) → takes m ts ≡ stopped z → skip m (at k ts) ≡ stopped z
unfolding skip
unskipped m k ts z h = rw h refl

-- a name
pub named : (k : ℕ) (ts us : Items) (n : Name) → taken_name ts ≡ found (n, us) → name_of (at k ts) ≡ found (n, at k us)
unfolding name_of
named k ts us n h = rw h refl

pub unnamed : (k : ℕ) (ts z : Items) → taken_name ts ≡ stopped z → name_of (at k ts) ≡ stopped z
unfolding name_of
unnamed k ts z h = rw h refl

-- a link that counts
pub counted : (start : Items) (k j : ℕ) (ts : Items) → lowered k ≡ Some j → linked start k ts ≡ found (at j ts)
counted start k j ts h = rw h refl

pub uncounted : (start : Items) (k : ℕ) (ts : Items) → lowered k ≡ None → linked start k ts ≡ stopped start
uncounted start k ts h = rw h refl
