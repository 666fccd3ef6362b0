-- What tokens begin with, from what the tests say and back.
use Rattle.std.proofs.Common.{◌≡◌, ◌≢◌, ℕ, zero, suc, Bool, true, false, cond, List, [], ◌∷◌, Option, Some, None, refl, sym, ap, subst, ◌∙◌, ◌⊎◌, inl, inr, ⊎_elim}
use Rattle.std.proofs.lemmas.Option.{same_Some}
use Rattle.std.proofs.lemmas.Slice.Eq.{bytes_eq-Decides}
use Rattle.tera_base.specs.declared.utils.Span.{Span}
use Rattle.tera_lexer.specs.grammar.Tokens as toks
use Rattle.tera_lexer.specs.grammar.Tokens.{Tok, Items, Token, Finish, Ident, Symbol}
use Rattle.tera_grammar.specs.expressions.Operators.{BinaryOperator, Mul, Div, Mod, Plus, Minus, FloorDiv, Power, LessThan, GreaterThan, LessThanOrEqual, GreaterThanOrEqual, Equal, NotEqual, And, Or, StrConcat, In}
use Rattle.tera_grammar.specs.expressions.Marks.{Mark, LeftParen, RightParen, LeftBracket, RightBracket, QuestionBracket, RightBrace, Comma, Colon, Dot, QuestionDot, Bar, Not, Is, If, Else, For, Operation, Other, mark_token, mark}
use Rattle.tera_grammar.specs.expressions.Concrete.{Name, Quote, Lit, Single, NotIn, quote_token, literal_token, name_yield, joint_yield, bracket_yield, op_yield}
use Rattle.tera_grammar.specs.Options.{◌>>=◌}
use Rattle.tera_grammar.specs.expressions.Reading.Front.{Place, at, same_token, among, lowered, literal_of, quote_of, Link, no_link, jointed, bracketed, called, link_marks, marked_link, link_of, Lead, leads_binary, leads_condition, Ending, ends_test, ends_filter, ends_subscript, front_marks}
use Rattle.tera_grammar.proofs.plain.expressions.Reading.Front.{takes, moved, skip, bump, taken_name, name_of, taken_as, taken_quote, literal_at, quote_at, Front, nothing, joins, closes, misplaced, front_not, marked_front, front_of_token, front}
use Rattle.tera_grammar.specs.expressions.Ends.{IsStopMark, IsStopToken, IsStop}

-- the parts of a reading that succeeds
pub bind_ok : {A B : Type 0} (o : Option A) (f : A → Option B) (y : B) → (o >>= f) ≡ Some y → (x : A) × (o ≡ Some x)
    × (f x ≡ Some y)
bind_ok None f y h = cc
bind_ok (Some x) f y h = (x, refl, h)

pub cond_ok : {A : Type 0} (b : Bool) (x y z : A) → cond b x y ≡ z → ((b ≡ true) × (x ≡ z)) ⊎ ((b ≡ false) × (y ≡ z))
cond_ok true x y z h = inl (refl, h)
cond_ok false x y z h = inr (refl, h)

-- a test that has to hold, and one that must not
pub holds_ok : {A : Type 0} (b : Bool) (o : Option A) (x : A) → cond b o None ≡ Some x → (b ≡ true) × (o ≡ Some x)
holds_ok true o x h = (refl, h)
holds_ok false o x h = cc

pub fails_ok : {A : Type 0} (b : Bool) (o : Option A) (x : A) → cond b None o ≡ Some x → (b ≡ false) × (o ≡ Some x)
fails_ok true o x h = cc
fails_ok false o x h = (refl, h)

pub same_token_is : (t u : Tok) → same_token t u ≡ true → t ≡ u
same_token_is (Ident a) (Ident b) h = ap Ident ((bytes_eq-Decides a b).0 h)
same_token_is (Symbol a) (Symbol b) h = ap Symbol ((bytes_eq-Decides a b).0 h)
same_token_is _ _ h = cc

pub among_is : (ms : List Mark) (t : Tok) (m : Mark) → among ms t ≡ m → m ≢ Other → t ≡ mark_token m
among_is [] t m h not = absurd (not (sym h))
among_is (n ∷ ms) t m h not =
    ⊎_elim (λ p. same_token_is t (mark_token n) p.0 ∙ ap mark_token p.1) (λ p. among_is ms t m p.1 not)
    (cond_ok (same_token t (mark_token n)) n (among ms t) m h)

pub takes_ok : (m : Mark) (ts : Items) (x : Span × Items) → takes m ts ≡ Some x → ts ≡ mark m x.0 x.1
takes_ok m (Token t s us) x h =
    let (same, made) = holds_ok (same_token t (mark_token m)) (Some (s, us)) x h in
    ap (λ u. Token u s us) (same_token_is t (mark_token m) same)
    ∙ ap (λ (y : Span × Items). mark m y.0 y.1) (same_Some (s, us) x made)
takes_ok m _ x h = cc

moved_ok : {A : Type 0} (k : ℕ) (o : Option (A × Items)) (x : A × Place) → moved k o ≡ Some x → (o ≡ Some (x.0, x.1.tokens))
    × (k ≡ x.1.links)
moved_ok k None x h = cc
moved_ok {A} k (Some y) x h = let e = same_Some (y.0, at k y.1) x h
    in (ap (λ (z : A × Place). Some (z.0, z.1.tokens)) e, ap (λ (z : A × Place). z.1.links) e)

pub skip_ok : (m : Mark) (p : Place) (x : Span × Place) → skip m p ≡ Some x → (p.tokens ≡ mark m x.0 x.1.tokens)
    × (p.links ≡ x.1.links)
unfolding skip
skip_ok m p x h = let (taken, kept) = moved_ok p.links (takes m p.tokens) x h in (takes_ok m p.tokens (x.0, x.1.tokens) taken, kept)

moved_none : {A : Type 0} (k : ℕ) (o : Option (A × Items)) → moved k o ≡ None → o ≡ None
moved_none k None h = refl
moved_none k (Some x) h = cc

pub skip_none : (m : Mark) (p : Place) → skip m p ≡ None → takes m p.tokens ≡ None
unfolding skip
skip_none m p h = moved_none p.links (takes m p.tokens) h

pub none_skip : (m : Mark) (k : ℕ) (r : Items) → takes m r ≡ None → skip m (at k r) ≡ None
unfolding skip
none_skip m k r h = rw h

-- a mark is taken where it is
pub skip_mark : (m : Mark) → same_token (mark_token m) (mark_token m) ≡ true → (k : ℕ) (s : Span) (r : Items)
    → skip m (at k (mark m s r)) ≡ Some (s, at k r)
unfolding skip
skip_mark m own k s r = rw own

pub skip_past : (m : Mark) (k : ℕ) (t : Tok) (s : Span) (r : Items) → same_token t (mark_token m) ≡ false
    → skip m (at k (Token t s r)) ≡ None
unfolding skip
skip_past m k t s r other = rw other

pub lowered_ok : (n k : ℕ) → lowered n ≡ Some k → n ≡ suc k
lowered_ok zero k h = cc
lowered_ok (suc n) k h = ap suc (same_Some _ _ h)

pub bump_ok : (p q : Place) → bump p ≡ Some q → (p.links ≡ suc q.links) × (p.tokens ≡ q.tokens)
unfolding bump
bump_ok p q h =
    let (k, low, made) = bind_ok (lowered p.links) (λ k. Some (at k p.tokens)) q h in
    let e = same_Some (at k p.tokens) q made in
    (lowered_ok p.links k low ∙ ap (λ (z : Place). suc z.links) e, ap (λ (z : Place). z.tokens) e)

pub bump_read : (k : ℕ) (r : Items) → bump (at (suc k) r) ≡ Some (at k r)
unfolding bump
bump_read k r = refl

pub taken_name_ok : (ts : Items) (x : Name × Items) → taken_name ts ≡ Some x → ts ≡ name_yield x.0 x.1
taken_name_ok (Token (Ident w) s us) x h = ap (λ (y : Name × Items). name_yield y.0 y.1) (same_Some _ _ h)
taken_name_ok _ x h = cc

pub name_of_ok : (p : Place) (x : Name × Place) → name_of p ≡ Some x → (p.tokens ≡ name_yield x.0 x.1.tokens) × (p.links ≡ x.1.links)
unfolding name_of
name_of_ok p x h = let (taken, kept) = moved_ok p.links (taken_name p.tokens) x h
    in (taken_name_ok p.tokens (x.0, x.1.tokens) taken, kept)

pub name_read : (n : Name) (k : ℕ) (r : Items) → name_of (at k (name_yield n r)) ≡ Some (n, at k r)
unfolding name_of
name_read n k r = refl

pub literal_of_ok : (t : Tok) (l : Lit) → literal_of t ≡ Some l → t ≡ literal_token l
literal_of_ok (toks.Integer n) l h = ap literal_token (same_Some _ _ h)
literal_of_ok (toks.Str text) l h = ap literal_token (same_Some _ _ h)
literal_of_ok (toks.Escaped text) l h = ap literal_token (same_Some _ _ h)
literal_of_ok (toks.Truth b) l h = ap literal_token (same_Some _ _ h)
literal_of_ok _ l h = cc

pub quote_of_ok : (t : Tok) (q : Quote) → quote_of t ≡ Some q → t ≡ quote_token q
quote_of_ok (toks.Str text) q h = ap quote_token (same_Some _ _ h)
quote_of_ok (toks.Escaped text) q h = ap quote_token (same_Some _ _ h)
quote_of_ok _ q h = cc

pub taken_as_ok : {A : Type 0} (kind : Tok → Option A) (token : A → Tok) → ((t : Tok) (x : A) → kind t ≡ Some x → t ≡ token x)
    → (ts : Items) (x : (A × Span) × Items) → taken_as kind ts ≡ Some x → ts ≡ Token (token x.0.0) x.0.1 x.1
taken_as_ok {A} kind token is (Token t s us) x h =
    let (y, read, made) = bind_ok (kind t) (λ y. Some ((y, s), us)) x h in
    ap (λ u. Token u s us) (is t y read)
    ∙ ap (λ (z : (A × Span) × Items). Token (token z.0.0) z.0.1 z.1) (same_Some ((y, s), us) x made)
taken_as_ok kind token is _ x h = cc

pub literal_at_ok : (p : Place) (x : (Lit × Span) × Place) → literal_at p ≡ Some x
    → (p.tokens ≡ Token (literal_token x.0.0) x.0.1 x.1.tokens) × (p.links ≡ x.1.links)
unfolding literal_at
literal_at_ok p x h =
    let (taken, kept) = moved_ok p.links (taken_as literal_of p.tokens) x h in
    (taken_as_ok literal_of literal_token literal_of_ok p.tokens (x.0, x.1.tokens) taken, kept)

pub quote_at_ok : (p : Place) (x : (Quote × Span) × Place) → quote_at p ≡ Some x
    → (p.tokens ≡ Token (quote_token x.0.0) x.0.1 x.1.tokens) × (p.links ≡ x.1.links)
unfolding quote_at
quote_at_ok p x h =
    let (taken, kept) = moved_ok p.links (taken_quote p.tokens) x h in
    (taken_as_ok quote_of quote_token quote_of_ok p.tokens (x.0, x.1.tokens) taken, kept)

-- how a link begins
abbrev pub LinkOf : Items → Link → Type 0
LinkOf ts no_link = Unit {0}
LinkOf ts called = Unit {0}
LinkOf ts (jointed d us) = ts ≡ joint_yield d us
LinkOf ts (bracketed b us) = ts ≡ bracket_yield b us

marked_link_of : (m : Mark) (t : Tok) (s : Span) (us : Items) → among link_marks t ≡ m → LinkOf (Token t s us) (marked_link m s us)
marked_link_of Dot t s us e = ap (λ u. Token u s us) (among_is link_marks t Dot e (λ p. cc))
marked_link_of QuestionDot t s us e = ap (λ u. Token u s us) (among_is link_marks t QuestionDot e (λ p. cc))
marked_link_of LeftBracket t s us e = ap (λ u. Token u s us) (among_is link_marks t LeftBracket e (λ p. cc))
marked_link_of QuestionBracket t s us e = ap (λ u. Token u s us) (among_is link_marks t QuestionBracket e (λ p. cc))
marked_link_of _ t s us e = tt

pub LinkOf-link_of : (ts : Items) → LinkOf ts (link_of ts)
unfolding link_of
LinkOf-link_of (Token t s us) = marked_link_of (among link_marks t) t s us refl
LinkOf-link_of _ = tt

-- how an operator, or a suffix, begins
abbrev pub lead_tokens : Lead → Items → Items
lead_tokens (leads_binary o) us = op_yield o us
lead_tokens (leads_condition s) us = mark If s us

abbrev pub ending_tokens : Ending → Items → Items
ending_tokens (ends_test s) us = mark Is s us
ending_tokens (ends_filter s) us = mark Bar s us
ending_tokens (ends_subscript s) us = mark LeftBracket s us

abbrev pub FrontOf : Items → Front → Type 0
FrontOf ts nothing = Unit {0}
FrontOf ts (joins e us) = ts ≡ lead_tokens e us
FrontOf ts (closes e us) = ts ≡ ending_tokens e us
FrontOf ts misplaced = Unit {0}

front_not_of : (t : Tok) (s : Span) (us : Items) → t ≡ mark_token Not → (o : Option (Span × Items)) → takes (Operation In) us ≡ o
    → FrontOf (Token t s us) (front_not s o)
front_not_of t s us is None e = tt
front_not_of t s us is (Some x) e = ap (λ u. Token u s us) is ∙ ap (mark Not s) (takes_ok (Operation In) us x e)

marked_front_of : (m : Mark) (t : Tok) (s : Span) (us : Items) → among front_marks t ≡ m
    → FrontOf (Token t s us) (marked_front m s us)
marked_front_of (Operation o) t s us e = ap (λ u. Token u s us) (among_is front_marks t (Operation o) e (λ p. cc))
marked_front_of Not t s us e = front_not_of t s us (among_is front_marks t Not e (λ p. cc)) (takes (Operation In) us) refl
marked_front_of Is t s us e = ap (λ u. Token u s us) (among_is front_marks t Is e (λ p. cc))
marked_front_of If t s us e = ap (λ u. Token u s us) (among_is front_marks t If e (λ p. cc))
marked_front_of Bar t s us e = ap (λ u. Token u s us) (among_is front_marks t Bar e (λ p. cc))
marked_front_of LeftBracket t s us e = ap (λ u. Token u s us) (among_is front_marks t LeftBracket e (λ p. cc))
marked_front_of _ t s us e = tt

pub FrontOf-front : (ts : Items) → FrontOf ts (front ts)
unfolding front_of_token
FrontOf-front (Token t s us) = marked_front_of (among front_marks t) t s us refl
FrontOf-front _ = tt

-- the fronts of the operators and the suffixes
pub front_operation : (o : BinaryOperator) (s : Span) (us : Items)
    → front (mark (Operation o) s us) ≡ joins (leads_binary (Single o s)) us
unfolding front_of_token
front_operation Mul s us = refl
front_operation Div s us = refl
front_operation Mod s us = refl
front_operation Plus s us = refl
front_operation Minus s us = refl
front_operation FloorDiv s us = refl
front_operation Power s us = refl
front_operation LessThan s us = refl
front_operation GreaterThan s us = refl
front_operation LessThanOrEqual s us = refl
front_operation GreaterThanOrEqual s us = refl
front_operation Equal s us = refl
front_operation NotEqual s us = refl
front_operation And s us = refl
front_operation Or s us = refl
front_operation StrConcat s us = refl
front_operation In s us = refl

pub front_lead : (e : Lead) (us : Items) → front (lead_tokens e us) ≡ joins e us
unfolding front_of_token
front_lead (leads_binary (Single o s)) us = front_operation o s us
front_lead (leads_binary (NotIn s t)) us = refl
front_lead (leads_condition s) us = refl

pub front_ending : (e : Ending) (us : Items) → front (ending_tokens e us) ≡ closes e us
unfolding front_of_token
front_ending (ends_test s) us = refl
front_ending (ends_filter s) us = refl
front_ending (ends_subscript s) us = refl

-- neither a link nor arguments begin here
pub record Apart (r : Items) : Type 0 where
  pub link : link_of r ≡ no_link
  pub call : takes LeftParen r ≡ None

-- nor does an operator or a suffix
pub record Ends (r : Items) : Type 0 where
  pub front : front r ≡ nothing
  pub apart : Apart r

apart_operation : (o : BinaryOperator) (s : Span) (us : Items) → Apart (mark (Operation o) s us)
unfolding link_of
apart_operation Mul s us = record { link = refl; call = refl }
apart_operation Div s us = record { link = refl; call = refl }
apart_operation Mod s us = record { link = refl; call = refl }
apart_operation Plus s us = record { link = refl; call = refl }
apart_operation Minus s us = record { link = refl; call = refl }
apart_operation FloorDiv s us = record { link = refl; call = refl }
apart_operation Power s us = record { link = refl; call = refl }
apart_operation LessThan s us = record { link = refl; call = refl }
apart_operation GreaterThan s us = record { link = refl; call = refl }
apart_operation LessThanOrEqual s us = record { link = refl; call = refl }
apart_operation GreaterThanOrEqual s us = record { link = refl; call = refl }
apart_operation Equal s us = record { link = refl; call = refl }
apart_operation NotEqual s us = record { link = refl; call = refl }
apart_operation And s us = record { link = refl; call = refl }
apart_operation Or s us = record { link = refl; call = refl }
apart_operation StrConcat s us = record { link = refl; call = refl }
apart_operation In s us = record { link = refl; call = refl }

pub apart_lead : (e : Lead) (us : Items) → Apart (lead_tokens e us)
unfolding link_of
apart_lead (leads_binary (Single o s)) us = apart_operation o s us
apart_lead (leads_binary (NotIn s t)) us = record { link = refl; call = refl }
apart_lead (leads_condition s) us = record { link = refl; call = refl }

pub apart_test : (s : Span) (us : Items) → Apart (mark Is s us)
unfolding link_of
apart_test s us = record { link = refl; call = refl }

pub apart_filter : (s : Span) (us : Items) → Apart (mark Bar s us)
unfolding link_of
apart_filter s us = record { link = refl; call = refl }

-- everything ends at a stop
pub ends_mark : (m : Mark) → IsStopMark m → (s : Span) (r : Items) → Ends (mark m s r)
unfolding link_of front_of_token
ends_mark RightParen h s r = record { front = refl; apart = record { link = refl; call = refl } }
ends_mark RightBracket h s r = record { front = refl; apart = record { link = refl; call = refl } }
ends_mark RightBrace h s r = record { front = refl; apart = record { link = refl; call = refl } }
ends_mark Comma h s r = record { front = refl; apart = record { link = refl; call = refl } }
ends_mark Colon h s r = record { front = refl; apart = record { link = refl; call = refl } }
ends_mark Else h s r = record { front = refl; apart = record { link = refl; call = refl } }
ends_mark For h s r = record { front = refl; apart = record { link = refl; call = refl } }
ends_mark _ h s r = absurd h

ends_token : (t : Tok) → IsStopToken t → (s : Span) (r : Items) → Ends (Token t s r)
unfolding link_of front_of_token
ends_token (Finish kind dash) h s r = record { front = refl; apart = record { link = refl; call = refl } }
ends_token t (m, stop, is) s r = subst (λ u. Ends (Token u s r)) (sym is) (ends_mark m stop s r)

pub ends_stop : (r : Items) → IsStop r → Ends r
ends_stop (Token t s r) h = ends_token t h s r
ends_stop _ h = absurd h

-- where no link begins, no arguments do
link_open : (r : Items) → link_of r ≡ no_link → (o : Option (Span × Items)) → takes LeftParen r ≡ o → o ≡ None
unfolding link_of
link_open r h None e = refl
link_open r h (Some x) e = let clash : called ≡ no_link = subst (λ v. link_of v ≡ no_link) (takes_ok LeftParen r x e) h in cc

pub unlinked_apart : (r : Items) → link_of r ≡ no_link → Apart r
unlinked_apart r h = record { link = h; call = link_open r h (takes LeftParen r) refl }
