-- Tools for the readers of expressions: one token, questions, limits.
use Rattle.std.proofs.Common.{◌≡◌, ℕ, ◌<◌, ◌≤◌, arith, Bool, true, false, cond, Option, Some, None, refl, ap, ◌∙◌}
use Rattle.tera_base.specs.declared.utils.Span.{Span}
use Rattle.tera_lexer.specs.code.Cursors.{size}
use Rattle.tera_lexer.specs.grammar.Tokens.{Tok, Items, Ended, Failed, Token}
use Rattle.tera_grammar.specs.expressions.Marks.{Mark}
use Rattle.tera_grammar.specs.expressions.Concrete.{Name}
use Rattle.tera_grammar.specs.expressions.Reading.Front.{Place, at, Reads, moved, mark_kind, name_kind, literal_kind, skip, name_of, literal_at}
use Rattle.tera_grammar.specs.Reads.{found, stopped, ◌>>=◌, given, first_as, Takes}
use Rattle.tera_grammar.proofs.stops.Local.{SameHead, at_token, After, items_after, Local, local_bind, local_here, local_stop, local_as, local_near, local_past, local_size, first_refused, first_taken, first_past, first_local, first_less}

abbrev pub place : After Place
place = record { tokens = λ p. p.tokens; at = λ p us. at p.links us; at_tokens = λ p. refl; tokens_at = λ p us. refl; at_at = λ p us vs. refl }

-- a reader of expressions is local at these tokens
abbrev pub IsLocal : {A : Type 0} → (Items → Reads A) → Items → Type 0
IsLocal f ts = Local place at_token at_token f ts

pub here : {A : Type 0} (p : Place) (x : A) → IsLocal (λ us. found (x, at p.links us)) p.tokens
here p x = local_here place at_token p x

pub stop : {A : Type 0} (ts : Items) → IsLocal {A = A} (λ us. stopped us) ts
stop ts = local_stop place at_token ts

pub after : {A B : Type 0} (f : Items → Reads A) (g : A → Place → Reads B) (ts : Items) → IsLocal f ts
    → ((x : A) (q : Place) → f ts ≡ found (x, q) → IsLocal (λ us. g x (at q.links us)) q.tokens) → IsLocal (λ us. f us >>= λ x. g x.0 x.1) ts
after f g ts one two = local_bind place place at_token at_token at_token f g ts one (λ x is. two x.0 x.1 is)

pub left_size : {A : Type 0} (f : Items → Reads A) (ts : Items) (x : A × Place) → IsLocal f ts → f ts ≡ found x → size x.1.tokens ≤ size ts
left_size f ts x one is = local_size place at_token at_token f ts one x is

-- readers of one token at a place
moved_is : {A : Type 0} (k : ℕ) (o : Takes A) → (o >>= λ x. found (x.0, at k x.1)) ≡ moved k o
moved_is k (stopped z) = refl
moved_is k (found x) = refl

module _ {A : Type 0} (kind : Tok → Span → Option A) where
  pub one_local : (k : ℕ) (ts : Items) → IsLocal (λ us. moved k (first_as kind us)) ts
  one_local k ts =
      local_as place at_token at_token (λ us. first_as kind us >>= λ x. found (x.0, at k x.1)) _ ts (λ us. moved_is k (first_as kind us))
      (local_bind items_after place at_token at_token at_token (first_as kind) (λ x us. found (x, at k us)) ts (first_local kind ts) (λ x is. here (at k x.1) x.0))

  moved_found : (k : ℕ) (o : Takes A) (x : A × Place) → moved k o ≡ found x → (y : A × Items) × (o ≡ found y) × (x ≡ (y.0, at k y.1))
  moved_found k (stopped z) x h = cc
  moved_found k (found y) x h = (y, refl, same_found x (y.0, at k y.1) h)
    where
      same_found : (a b : A × Place) → found b ≡ found a → a ≡ b
      same_found a b e = cc

  pub one_less : (k : ℕ) (ts : Items) (x : A × Place) → moved k (first_as kind ts) ≡ found x → size x.1.tokens < size ts
  one_less k ts x h =
      let (y, read, is) = moved_found k (first_as kind ts) x h in
      let less = first_less kind ts y read in
      let same = ap (λ (z : A × Place). size z.1.tokens) is in
      omega (arith, less, same)

  -- a question, and one of two readers: after the token that was asked for, or where it was asked
  module _ {B : Type 0} (k : ℕ) (all : Place → Reads A → Reads B) (held : A → Place → Reads B) (other : Place → Reads B)
      (goes_held : (q : Place) (x : A × Place) → all q (found x) ≡ held x.0 x.1) (goes_other : (q : Place) (z : Items) → all q (stopped z) ≡ other q) where
    otherwise : (ts : Items) → SameHead ts ts → ((vs : Items) → SameHead ts vs → first_as kind vs ≡ stopped vs) → IsLocal (λ us. other (at k us)) ts
        → IsLocal (λ us. all (at k us) (moved k (first_as kind us))) ts
    otherwise ts self none elsewhere =
        local_near place at_token at_token (λ us. all (at k us) (moved k (first_as kind us))) (λ us. other (at k us)) ts self
        (λ vs h. ap (λ o. all (at k vs) (moved k o)) (none vs h) ∙ goes_other (at k vs) vs) elsewhere

    pub ask : (ts : Items) → ((t : Tok) (s : Span) (us : Items) (x : A) → ts ≡ Token t s us → IsLocal (λ vs. held x (at k vs)) us) → IsLocal (λ us. other (at k us)) ts
        → IsLocal (λ us. all (at k us) (moved k (first_as kind us))) ts
    ask (Token t s us) held_local other_local = by (kind t s) refl
      where
        by : (o : Option A) → kind t s ≡ o → IsLocal (λ us. all (at k us) (moved k (first_as kind us))) (Token t s us)
        by None is = otherwise (Token t s us) (refl, refl) (λ vs h. first_refused kind t s us vs is h) other_local
        by (Some x) is =
            local_past place at_token at_token (λ us. all (at k us) (moved k (first_as kind us))) (λ vs. held x (at k vs)) t s us
            (λ vs. ap (λ o. all (at k (Token t s vs)) (moved k o)) (first_past kind t s x vs is) ∙ goes_held (at k (Token t s vs)) (x, at k vs)) (held_local t s us x refl)
    ask Ended held_local other_local = otherwise Ended refl (λ vs h. rw h refl) other_local
    ask (Failed text here) held_local other_local = otherwise (Failed text here) refl (λ vs h. rw h refl) other_local

  -- a question, and one of two readers where it was asked
  module _ {B : Type 0} (k : ℕ) (all : Place → Reads A → Reads B) (held other : Place → Reads B)
      (goes_held : (q : Place) (x : A × Place) → all q (found x) ≡ held q) (goes_other : (q : Place) (z : Items) → all q (stopped z) ≡ other q) where
    pub look : (ts : Items) → IsLocal (λ us. held (at k us)) ts → IsLocal (λ us. other (at k us)) ts → IsLocal (λ us. all (at k us) (moved k (first_as kind us))) ts
    look (Token t s us) held_local other_local = by (kind t s) refl
      where
        by : (o : Option A) → kind t s ≡ o → IsLocal (λ us. all (at k us) (moved k (first_as kind us))) (Token t s us)
        by None is =
            local_near place at_token at_token (λ us. all (at k us) (moved k (first_as kind us))) (λ us. other (at k us)) (Token t s us) (refl, refl)
            (λ vs h. ap (λ o. all (at k vs) (moved k o)) (first_refused kind t s us vs is h) ∙ goes_other (at k vs) vs) other_local
        by (Some x) is =
            local_near place at_token at_token (λ us. all (at k us) (moved k (first_as kind us))) (λ us. held (at k us)) (Token t s us) (refl, refl)
            (λ vs h. let (rest, taken) = first_taken kind t s us vs x is h in ap (λ o. all (at k vs) (moved k o)) taken ∙ goes_held (at k vs) (x, at k rest)) held_local
    look Ended held_local other_local =
        local_near place at_token at_token (λ us. all (at k us) (moved k (first_as kind us))) (λ us. other (at k us)) Ended refl
        (λ vs h. rw h (goes_other (at k Ended) Ended)) other_local
    look (Failed text here) held_local other_local =
        local_near place at_token at_token (λ us. all (at k us) (moved k (first_as kind us))) (λ us. other (at k us)) (Failed text here) refl
        (λ vs h. rw h (goes_other (at k (Failed text here)) (Failed text here))) other_local

-- marks and names
pub skip_local : (m : Mark) (k : ℕ) (ts : Items) → IsLocal (λ us. skip m (at k us)) ts
unfolding skip
skip_local m k ts = one_local (mark_kind m) k ts

pub skip_less : (m : Mark) (p : Place) (x : Span × Place) → skip m p ≡ found x → size x.1.tokens < size p.tokens
unfolding skip
skip_less m p x h = one_less (mark_kind m) p.links p.tokens x h

pub name_local : (k : ℕ) (ts : Items) → IsLocal (λ us. name_of (at k us)) ts
unfolding name_of
name_local k ts = one_local name_kind k ts

pub name_less : (p : Place) (x : Name × Place) → name_of p ≡ found x → size x.1.tokens < size p.tokens
unfolding name_of
name_less p x h = one_less name_kind p.links p.tokens x h

pub literal_local : (k : ℕ) (ts : Items) → IsLocal (λ us. literal_at (at k us)) ts
unfolding literal_at
literal_local k ts = one_local literal_kind k ts

-- the question whether a mark is there
module _ {B : Type 0} (m : Mark) (k : ℕ) (all : Place → Reads Span → Reads B) where
  pub ask_mark : (held : Span → Place → Reads B) (other : Place → Reads B) → ((q : Place) (x : Span × Place) → all q (found x) ≡ held x.0 x.1)
      → ((q : Place) (z : Items) → all q (stopped z) ≡ other q) → (ts : Items)
      → ((t : Tok) (s : Span) (us : Items) (x : Span) → ts ≡ Token t s us → IsLocal (λ vs. held x (at k vs)) us) → IsLocal (λ us. other (at k us)) ts
      → IsLocal (λ us. all (at k us) (skip m (at k us))) ts
  unfolding skip
  ask_mark held other goes_held goes_other ts one two = ask (mark_kind m) k all held other goes_held goes_other ts one two

  pub look_mark : (held other : Place → Reads B) → ((q : Place) (x : Span × Place) → all q (found x) ≡ held q)
      → ((q : Place) (z : Items) → all q (stopped z) ≡ other q) → (ts : Items)
      → IsLocal (λ us. held (at k us)) ts → IsLocal (λ us. other (at k us)) ts
      → IsLocal (λ us. all (at k us) (skip m (at k us))) ts
  unfolding skip
  look_mark held other goes_held goes_other ts one two = look (mark_kind m) k all held other goes_held goes_other ts one two

-- a value that there has to be, whatever the tokens are; and a test
pub local_given : {A B : Type 0} (o : Option A) (g : A → Items → Reads B) (ts : Items) → ((x : A) → o ≡ Some x → IsLocal (g x) ts)
    → IsLocal (λ us. given us o >>= λ x. g x us) ts
local_given None g ts goes = stop ts
local_given (Some x) g ts goes = goes x refl

pub local_cond : {A : Type 0} (b : Bool) (f g : Items → Reads A) (ts : Items) → IsLocal f ts → IsLocal g ts → IsLocal (λ us. cond b (f us) (g us)) ts
local_cond true f g ts one two = one
local_cond false f g ts one two = two
