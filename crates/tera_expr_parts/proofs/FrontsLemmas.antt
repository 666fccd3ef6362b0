-- What comes after an operand, looked at and then taken.
use Rattle.std.proofs.Common.{◌≡◌, ◌≢◌, ℕ, ◌+◌, Bool, true, false, is_some, List, Some, Ok, refl, sym, ap, subst, ◌∙◌, codes, arith}
use Rattle.std.specs.Str.{bytes_eq}
use Rattle.std.specs.Prelude.{cond}
use Rattle.tera_base.specs.declared.utils.Span.{Span}
use Rattle.tera_lexer.specs.grammar.Tokens as toks
use Rattle.tera_lexer.specs.grammar.Tokens.{Tok, Items, Ended, Failed, Token, Ident}
use Rattle.tera_grammar.specs.expressions.Operators as operators
use Rattle.tera_grammar.specs.expressions.Operators.{BinaryOperator}
use Rattle.tera_grammar.specs.expressions.Marks.{Operation}
use Rattle.tera_grammar.specs.expressions.Reading.Front as reading
use Rattle.tera_grammar.specs.expressions.Reading.Front.{takes, front_of_token}
use Rattle.tera_grammar.specs.expressions.Stack.{stops}
use Rattle.tera_grammar.specs.expressions.Marks.{Mark, mark_token, Not, Is, If, Bar, LeftBracket}
use Rattle.tera_grammar.specs.expressions.Concrete.{Single, NotIn}
use Rattle.tera_grammar.specs.expressions.Reading.Front.{among, front_marks, front_not, marked_front, begins, begins_sign, same_token}
use Rattle.tera_grammar.specs.Reads.{found, stopped, Takes, forget}
use Rattle.tera_grammar.proofs.stops.Fronts.{takes_ok}
use Rattle.tera_lexer.specs.code.Cursors as cursors
use Rattle.tera_lexer.specs.code.Seen.{seen}
use Rattle.tera_lexer.specs.code.Cursors.{Position, Skips, Sight, SeesTwo, size}
use Rattle.tera_lexer.proofs.FaultsOfTokens.{token_later}
use Rattle.tera_expect.specs.Taking.{Took}
use Rattle.tera_lexer.specs.declared.lexer.tokens.Token.{Token as Lexed}
use Rattle.tera_expr_parts.specs.declared.front.Ending.{Ending}
use Rattle.tera_expr_parts.specs.declared.front.Ending.TheVariants.{Test, Filter, Subscript}
use Rattle.tera_expr_parts.specs.Fronts.{Kind, no_kind, joined_by, chosen, kind_of, ending_kind, ending_of, word_kind, second_is_in, keeps_off, IsOperatorBefore}

pub stops_alike : (m : ℕ) (f : reading.Front) → stops m f ≡ keeps_off m (kind_of f)
stops_alike m reading.nothing = refl
stops_alike m (reading.joins (reading.leads_binary (Single o s)) ts) = refl
stops_alike m (reading.joins (reading.leads_binary (NotIn s t)) ts) = refl
stops_alike m (reading.joins (reading.leads_condition s) ts) = refl
stops_alike m (reading.closes (reading.ends_test s) ts) = refl
stops_alike m (reading.closes (reading.ends_filter s) ts) = refl
stops_alike m (reading.closes (reading.ends_subscript s) ts) = refl
stops_alike m (reading.misplaced us) = refl

pub word_front_kind : (w : List ℕ) (s : Span) (us : Items) → kind_of (front_of_token (Ident w) s us) ≡ word_kind w (is_some (forget (takes (Operation operators.In) us)))
unfolding front_of_token
word_front_kind w s us = by (bytes_eq w (codes "or")) (bytes_eq w (codes "and")) (bytes_eq w (codes "in")) (bytes_eq w (codes "not")) (bytes_eq w (codes "is")) (bytes_eq w (codes "if")) (takes (Operation operators.In) us) refl refl refl refl refl refl refl
  where
    by : (a b c d e f : Bool) (o : Takes Span) → bytes_eq w (codes "or") ≡ a → bytes_eq w (codes "and") ≡ b → bytes_eq w (codes "in") ≡ c → bytes_eq w (codes "not") ≡ d
        → bytes_eq w (codes "is") ≡ e → bytes_eq w (codes "if") ≡ f → takes (Operation operators.In) us ≡ o
        → kind_of (front_of_token (Ident w) s us) ≡ word_kind w (is_some (forget (takes (Operation operators.In) us)))
    by true b c d e f o ha hb hc hd he hf ho = rw ha refl
    by false true c d e f o ha hb hc hd he hf ho = rw (ha, hb) refl
    by false false true d e f o ha hb hc hd he hf ho = rw (ha, hb, hc) refl
    by false false false true e f (stopped z) ha hb hc hd he hf ho = rw (ha, hb, hc, hd, ho) refl
    by false false false true e f (found x) ha hb hc hd he hf ho = rw (ha, hb, hc, hd, ho) refl
    by false false false false true f o ha hb hc hd he hf ho = rw (ha, hb, hc, hd, he) refl
    by false false false false false true o ha hb hc hd he hf ho = rw (ha, hb, hc, hd, he, hf) refl
    by false false false false false false o ha hb hc hd he hf ho = rw (ha, hb, hc, hd, he, hf) refl

-- no token is seen where none is skipped
pub unseen : (old new : Position) → Skips old false new → SeesTwo new → Sight 2 old.left 0
unseen old new (none, same) sees = subst (Sight 2 old.left) none (subst SeesTwo same sees)

-- a token that is not shown begins nothing
pub unseen_front : (ts : Items) → Sight 2 ts 0 → no_kind ≡ kind_of (reading.front ts)
unfolding front_of_token
unseen_front Ended h = refl
unseen_front (Failed text span) h = refl
unseen_front (Token (toks.Escaped text) span items) h = refl
unseen_front (Token _ span items) h = absurd h

-- the token that was taken where something goes on with an operand
pub front_taken : (old new : Position) (b : Bool) → Skips old b new → SeesTwo new → kind_of (reading.front old.left) ≢ no_kind → (t : Tok) × (old.left ≡ Token t new.span new.left)
front_taken old new false h sees some = absurd (some (sym (unseen_front old.left (unseen old new h sees))))
front_taken old new true (p, h) sees some = (seen p.0, h.1 ∙ ap (λ s. Token (seen p.0) s new.left) (sym h.5))

-- a token was taken
pub took_token : (old new : Position) (p : Lexed × Span) → cursors.Takes old (Ok (Some p)) new → Took old new
unfolding Took
took_token old new p h =
    let fewer : size old.left ≡ size new.left + 1 = ap size h.1 in
    (token_later old new (seen p.0) p.1 h.1 h.5 h.3 h.4, omega (arith, fewer))

pub front_took : (old new : Position) (b : Bool) → Skips old b new → SeesTwo new → kind_of (reading.front old.left) ≢ no_kind → Took old new
front_took old new false h sees some = absurd (some (sym (unseen_front old.left (unseen old new h sees))))
front_took old new true (p, h) sees some = took_token old new p h

front_is : (t : Tok) (s : Span) (us : Items) → reading.front (Token t s us) ≡ marked_front (among front_marks t) s us
unfolding front_of_token
front_is t s us = refl

-- the `if` of a ternary
chosen_there : (m : Mark) (s : Span) (us : Items) → chosen ≡ kind_of (marked_front m s us) → marked_front m s us ≡ reading.joins (reading.leads_condition s) us
chosen_there If s us h = refl
chosen_there (Operation o) s us h = cc
chosen_there Not s us h = by (takes (Operation operators.In) us) h
  where
    by : (o : Takes Span) → chosen ≡ kind_of (front_not s o) → front_not s o ≡ reading.joins (reading.leads_condition s) us
    by (stopped z) h = cc
    by (found x) h = cc
chosen_there _ s us h = cc

pub condition_taken : (old new : Position) (b : Bool) → Skips old b new → SeesTwo new → chosen ≡ kind_of (reading.front old.left)
    → reading.front old.left ≡ reading.joins (reading.leads_condition new.span) new.left
condition_taken old new b h sees is =
    let (t, left) = front_taken old new b h sees (λ none. let clash : chosen ≡ no_kind = is ∙ none in cc) in
    let there : reading.front old.left ≡ marked_front (among front_marks t) new.span new.left = ap reading.front left ∙ front_is t new.span new.left in
    there ∙ chosen_there (among front_marks t) new.span new.left (is ∙ ap kind_of there)

-- what is closed on its right
ending_there : (e : Ending) (m : Mark) (s : Span) (us : Items) → ending_kind e ≡ kind_of (marked_front m s us) → marked_front m s us ≡ reading.closes (ending_of e s) us
ending_there Test Is s us h = refl
ending_there Filter Bar s us h = refl
ending_there Subscript LeftBracket s us h = refl
ending_there e Not s us h = by e (takes (Operation operators.In) us) h
  where
    by : (e : Ending) (o : Takes Span) → ending_kind e ≡ kind_of (front_not s o) → front_not s o ≡ reading.closes (ending_of e s) us
    by Test (stopped z) h = cc
    by Test (found x) h = cc
    by Filter (stopped z) h = cc
    by Filter (found x) h = cc
    by Subscript (stopped z) h = cc
    by Subscript (found x) h = cc
ending_there Test _ s us h = cc
ending_there Filter _ s us h = cc
ending_there Subscript _ s us h = cc

some_ending : (e : Ending) → ending_kind e ≢ no_kind
some_ending Test h = cc
some_ending Filter h = cc
some_ending Subscript h = cc

pub ending_taken : (old new : Position) (b : Bool) → Skips old b new → SeesTwo new → (e : Ending) → ending_kind e ≡ kind_of (reading.front old.left)
    → reading.front old.left ≡ reading.closes (ending_of e new.span) new.left
ending_taken old new b h sees e is =
    let (t, left) = front_taken old new b h sees (λ none. some_ending e (is ∙ none)) in
    let there : reading.front old.left ≡ marked_front (among front_marks t) new.span new.left = ap reading.front left ∙ front_is t new.span new.left in
    there ∙ ending_there e (among front_marks t) new.span new.left (is ∙ ap kind_of there)

-- an operator of one token, and `not in`
abbrev pub OneOrTwo : BinaryOperator → Bool → reading.Front → Items → Type 0
OneOrTwo o false fr us = IsOperatorBefore fr o false us
OneOrTwo o true fr us = (x : Span × Items) × (takes (Operation operators.In) us ≡ found x) × IsOperatorBefore fr o true x.1

joined_there : (o : BinaryOperator) (n : Bool) (m : Mark) (s : Span) (us : Items) → joined_by o n ≡ kind_of (marked_front m s us) → OneOrTwo o n (marked_front m s us) us
joined_there o false (Operation p) s us h = (Single p s, refl, (let e : o ≡ p = cc in sym e), refl)
joined_there o true (Operation p) s us h = cc
joined_there o n Not s us h = by n (takes (Operation operators.In) us) refl h
  where
    by : (n : Bool) (r : Takes Span) → takes (Operation operators.In) us ≡ r → joined_by o n ≡ kind_of (front_not s r) → OneOrTwo o n (front_not s (takes (Operation operators.In) us)) us
    by n (stopped z) is h = cc
    by false (found x) is h = cc
    by true (found x) is h = (x, is, (NotIn s x.0, ap (front_not s) is, (let e : o ≡ operators.In = cc in sym e), refl))
joined_there o n _ s us h = cc

pub operator_taken : (old new : Position) (b : Bool) → Skips old b new → SeesTwo new → (o : BinaryOperator) (n : Bool) → joined_by o n ≡ kind_of (reading.front old.left)
    → OneOrTwo o n (reading.front old.left) new.left
operator_taken old new b h sees o n is =
    let (t, left) = front_taken old new b h sees (λ none. let clash : joined_by o n ≡ no_kind = is ∙ none in cc) in
    let there : reading.front old.left ≡ marked_front (among front_marks t) new.span new.left = ap reading.front left ∙ front_is t new.span new.left in
    subst (λ fr. OneOrTwo o n fr new.left) (sym there) (joined_there o n (among front_marks t) new.span new.left (is ∙ ap kind_of there))

following : Items → Items
following (Token t s us) = us
following r = r

not_in_unseen : (x : Span × Items) (items : Items) → takes (Operation operators.In) items ≡ found x → Sight 2 items 0 → ⊥
not_in_unseen x items is h = subst (λ us. Sight 2 us 0) (takes_ok (Operation operators.In) items x is) h

pub not_in_taken : (fr : reading.Front) (o : BinaryOperator) (mid new : Position) (b : Bool) → OneOrTwo o true fr mid.left → Skips mid b new → SeesTwo new → IsOperatorBefore fr o true new.left
unfolding following
not_in_taken fr o mid new false (x, is, before) h sees = absurd (not_in_unseen x mid.left is (unseen mid new h sees))
not_in_taken fr o mid new true (x, is, before) (p, h) sees = subst (IsOperatorBefore fr o true) (ap following (sym (takes_ok (Operation operators.In) mid.left x is) ∙ h.1)) before

pub not_in_took : (fr : reading.Front) (o : BinaryOperator) (mid new : Position) (b : Bool) → OneOrTwo o true fr mid.left → Skips mid b new → SeesTwo new → Took mid new
not_in_took fr o mid new false (x, is, before) h sees = absurd (not_in_unseen x mid.left is (unseen mid new h sees))
not_in_took fr o mid new true (x, is, before) (p, h) sees = took_token mid new p h

pub some_kind : (e : Ending) (k : Kind) → ending_kind e ≡ k → k ≢ no_kind
some_kind e k is none = some_ending e (is ∙ none)

pub chosen_kind : (k : Kind) → chosen ≡ k → k ≢ no_kind
chosen_kind k is none = let clash : chosen ≡ no_kind = is ∙ none in cc

pub joined_kind : (o : BinaryOperator) (n : Bool) (k : Kind) → joined_by o n ≡ k → k ≢ no_kind
joined_kind o n k is none = let clash : joined_by o n ≡ no_kind = is ∙ none in cc

-- prefixes
pub minus_begins : (ts : Items) → begins (Operation operators.Minus) ts ≡ true → begins_sign ts ≡ true
unfolding begins_sign
minus_begins Ended h = cc
minus_begins (Failed text span) h = cc
minus_begins (Token u s us) h = by (same_token u (mark_token Not)) refl
  where
    by : (x : Bool) → same_token u (mark_token Not) ≡ x → cond (same_token u (mark_token Not)) true (same_token u (mark_token (Operation operators.Minus))) ≡ true
    by true hx = rw hx refl
    by false hx = rw hx h

pub not_begins : (ts : Items) → begins (Operation operators.Minus) ts ≡ false → begins Not ts ≡ begins_sign ts
unfolding begins_sign
not_begins Ended h = refl
not_begins (Failed text span) h = refl
not_begins (Token u s us) h = by (same_token u (mark_token Not)) refl
  where
    by : (x : Bool) → same_token u (mark_token Not) ≡ x → same_token u (mark_token Not) ≡ cond (same_token u (mark_token Not)) true (same_token u (mark_token (Operation operators.Minus)))
    by true hx = rw hx refl
    by false hx = rw hx (sym h)

pub name_front : (ts : Items) (w : List ℕ) (s : Span) (us : Items) → ts ≡ Token (Ident w) s us → word_kind w (second_is_in ts) ≡ kind_of (reading.front ts)
name_front ts w s us is = rw is (sym (word_front_kind w s us))
