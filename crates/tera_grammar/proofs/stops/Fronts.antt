-- Steps of the reading that says where it stops.
use Rattle.std.proofs.Common.{◌≡◌, ℕ, Bool, true, false, cond, Option, Some, None, refl, ap}
use Rattle.tera_base.specs.declared.utils.Span.{Span}
use Rattle.tera_lexer.specs.grammar.Tokens.{Tok, Items, Ended, Failed, Token}
use Rattle.tera_grammar.specs.Reads.{Read, found, stopped, ◌>>=◌, bind, given, Takes, first_as}
use Rattle.tera_grammar.specs.expressions.Marks.{Mark, mark, mark_token}
use Rattle.tera_grammar.specs.expressions.Concrete.{Name}
use Rattle.tera_grammar.specs.expressions.Reading.Front.{Place, at, same_token, takes, taken_name, moved, skip, name_of}
use Rattle.tera_grammar.proofs.expressions.Fronts as plain
use Rattle.tera_grammar.proofs.stops.Forget.{takes_forget}
use Rattle.tera_grammar.proofs.Readings.{some_of}

pub found_same : {A : Type 0} (x y : A) → found x ≡ found y → x ≡ y
found_same x y h = cc

-- the parts of a reading that succeeds
pub bind_ok : {A B : Type 0} (o : Read A) (f : A → Read B) (y : B) → (o >>= f) ≡ found y → (x : A) × (o ≡ found x) × (f x ≡ found y)
bind_ok (stopped z) f y h = cc
bind_ok (found x) f y h = (x, refl, h)

pub bound : {A B : Type 0} {G : Type 0} (o : Read A) (f : A → Read B) (y : B) → (o >>= f) ≡ found y → ((x : A) → o ≡ found x → f x ≡ found y → G) → G
bound (stopped z) f y h then = cc
bound (found x) f y h then = then x refl h

pub holds_ok : {A : Type 0} (b : Bool) (o : Read A) (z : Items) (x : A) → cond b o (stopped z) ≡ found x → (b ≡ true) × (o ≡ found x)
holds_ok true o z x h = (refl, h)
holds_ok false o z x h = cc

pub fails_ok : {A : Type 0} (b : Bool) (o : Read A) (z : Items) (x : A) → cond b (stopped z) o ≡ found x → (b ≡ false) × (o ≡ found x)
fails_ok true o z x h = cc
fails_ok false o z x h = (refl, h)

-- one token: it is there, or reading stops before it
pub first_stays : {A : Type 0} (kind : Tok → Span → Option A) (ts z : Items) → first_as kind ts ≡ stopped z → z ≡ ts
first_stays {A = A} kind (Token t s us) z h = by (kind t s) h
  where
    by : (o : Option A) → ◌≡◌ {A = Takes A} (bind {A = A} {B = A × Items} (given (Token t s us) o) (λ x. found (x, us))) (stopped z) → z ≡ Token t s us
    by None h = cc
    by (Some x) h = cc
first_stays kind Ended z h = cc
first_stays kind (Failed text there) z h = cc

pub takes_stays : (m : Mark) (ts z : Items) → takes m ts ≡ stopped z → z ≡ ts
takes_stays m ts z h = first_stays _ ts z h

pub takes_ok : (m : Mark) (ts : Items) (x : Span × Items) → takes m ts ≡ found x → ts ≡ mark m x.0 x.1
takes_ok m ts x h = plain.takes_ok m ts x (some_of _ _ (takes_forget m ts) x h)

pub skip_taken : (m : Mark) (k : ℕ) (ts us : Items) (s : Span) → takes m ts ≡ found (s, us) → skip m (at k ts) ≡ found (s, at k us)
unfolding skip
skip_taken m k ts us s h = ap (moved k) h

pub none_skip : (m : Mark) (k : ℕ) (ts z : Items) → takes m ts ≡ stopped z → skip m (at k ts) ≡ stopped z
unfolding skip
none_skip m k ts z h = ap (moved k) h

moved_ok : {A : Type 0} (k : ℕ) (o : Takes A) (x : A × Place) → moved k o ≡ found x → (o ≡ found (x.0, x.1.tokens)) × (k ≡ x.1.links)
moved_ok k (stopped z) x h = cc
moved_ok {A = A} k (found y) x h =
    let e : (y.0, at k y.1) ≡ x = found_same _ _ h in
    (ap (λ (v : A × Place). found (v.0, v.1.tokens)) e, ap (λ (v : A × Place). v.1.links) e)

pub skip_ok : (m : Mark) (p : Place) (x : Span × Place) → skip m p ≡ found x → (p.tokens ≡ mark m x.0 x.1.tokens) × (p.links ≡ x.1.links)
unfolding skip
skip_ok m p x h = let (taken, same) = moved_ok p.links (takes m p.tokens) x h in (takes_ok m p.tokens (x.0, x.1.tokens) taken, same)

-- a mark is taken where it is
pub takes_mark : (m : Mark) → same_token (mark_token m) (mark_token m) ≡ true → (s : Span) (r : Items) → takes m (mark m s r) ≡ found (s, r)
takes_mark m same s r = ap (λ b. given (mark m s r) (cond b (Some s) None) >>= λ x. found (x, r)) same

pub skip_mark : (m : Mark) → same_token (mark_token m) (mark_token m) ≡ true → (k : ℕ) (s : Span) (r : Items) → skip m (at k (mark m s r)) ≡ found (s, at k r)
skip_mark m same k s r = skip_taken m k (mark m s r) r s (takes_mark m same s r)

pub name_taken : (k : ℕ) (ts us : Items) (n : Name) → taken_name ts ≡ found (n, us) → name_of (at k ts) ≡ found (n, at k us)
unfolding name_of
name_taken k ts us n h = ap (moved k) h

pub none_named : (k : ℕ) (ts z : Items) → taken_name ts ≡ stopped z → name_of (at k ts) ≡ stopped z
unfolding name_of
none_named k ts z h = ap (moved k) h
