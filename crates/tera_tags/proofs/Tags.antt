-- Tags that close a body.
use Rattle.std.proofs.Common.{◌≡◌, ◌<◌, Bool, inl, inr, true, false, refl, ap, sym, ◌∙◌, arith}
use Rattle.tera_base.specs.Errors.{IsMemory}
use Rattle.tera_base.specs.declared.errors.Error.{Error}
use Rattle.tera_base.specs.declared.utils.Span.{Span}
use Rattle.tera_lexer.specs.code.Cursors.{FirstIs, Position, Skips, is_end}
use Rattle.tera_lexer.specs.grammar.Tokens.{Tok, Items, Ended, Failed, Finish, Token}
use Rattle.tera_lexer.specs.code.Seen.{seen}
use Rattle.tera_lexer.specs.declared.lexer.delimiters.Kind.{Kind}
use Rattle.tera_grammar.specs.Reads.{Read, found, stopped, Takes, Fails}
use Rattle.tera_grammar.specs.statements.TagParts as parts
use Rattle.tera_grammar.specs.statements.TagParts.{Edge}
use Rattle.tera_grammar.specs.statements.Reading.TagParts.{Front, Ends, Closes, Holds, Shows, Opens, Wrong, front, closed_at, closed, wrong_at}
use Rattle.tera_grammar.proofs.Readings.{fails_as}
use Rattle.tera_grammar.proofs.statements.TagParts.{FrontOf, front_is}
use Rattle.tera_tags.specs.Kinds.{closer_of, closes}
use Rattle.tera_tags.specs.Reading.{EatsEnd}
use Rattle.tera_expr_parts.proofs.FrontsLemmas.{took_token}
use Rattle.tera_tags.specs.declared.fronts.Closer.{Closer}

closed_by : (expected : Closer) (fr : Front) (ts us vs : Items) (t u : Tok) (s r : Span) → FrontOf ts fr → closes expected fr ≡ true → ts ≡ Token t s us → us ≡ Token u r vs
    → (x : Edge × Span) × (closed_at (closer_of expected) ts fr ≡ found (x, vs))
unfolding closed_at
closed_by expected (Closes c start first items) ts us vs t u s r is same one two =
    let end : items ≡ vs = cc in
    ((start, first), rw same (ap (λ v. found ((start, first), v)) end))
closed_by expected Ends ts us vs t u s r is same one two = cc
closed_by expected (Holds text span items) ts us vs t u s r is same one two = cc
closed_by expected (Shows start items) ts us vs t u s r is same one two = cc
closed_by expected (Opens o start first items) ts us vs t u s r is same one two = cc
closed_by expected Wrong ts us vs t u s r is same one two = cc

-- the closing token that is wanted is the second of two that were taken
pub closed_taken : (expected : Closer) (ts us vs : Items) (t u : Tok) (s r : Span) → closes expected (front ts) ≡ true → ts ≡ Token t s us → us ≡ Token u r vs
    → (x : Edge × Span) × (closed (closer_of expected) ts ≡ found (x, vs))
closed_taken expected ts us vs t u s r same one two = closed_by expected (front ts) ts us vs t u s r (front_is ts) same one two

closed_no : (expected : Closer) (ts : Items) (fr : Front) → closes expected fr ≡ false → closed_at (closer_of expected) ts fr ≡ stopped (wrong_at ts)
unfolding closed_at
closed_no expected ts (Closes c start first items) h = rw h refl
closed_no expected ts Ends h = refl
closed_no expected ts (Holds text span items) h = refl
closed_no expected ts (Shows start items) h = refl
closed_no expected ts (Opens o start first items) h = refl
closed_no expected ts Wrong h = refl

pub unclosed : (expected : Closer) (ts : Items) → closes expected (front ts) ≡ false → closed (closer_of expected) ts ≡ stopped (wrong_at ts)
unclosed expected ts h = closed_no expected ts (front ts) h

-- where it comes next, only memory is wanting
not_stopped : (expected : Closer) (ts z : Items) (fr : Front) → closes expected fr ≡ true → closed_at (closer_of expected) ts fr ≡ stopped z → ⊥
unfolding closed_at
not_stopped expected ts z (Closes c start first items) same h = let made : ◌≡◌ {A = Takes (Edge × Span)} (found ((start, first), items)) (stopped z) = rw same at h in cc
not_stopped expected ts z Ends same h = cc
not_stopped expected ts z (Holds text span items) same h = cc
not_stopped expected ts z (Shows start items) same h = cc
not_stopped expected ts z (Opens o start first items) same h = cc
not_stopped expected ts z Wrong same h = cc

pub closed_memory : (expected : Closer) (ts left : Items) (e : Error) → closes expected (front ts) ≡ true → Fails (closed (closer_of expected) ts) left e → IsMemory e
closed_memory expected ts left e same (inl memory) = memory
closed_memory expected ts left e same (inr (inl none)) = absurd (not_stopped expected ts left (front ts) same none)
closed_memory expected ts left e same (inr (inr (inl (t, s, none)))) = absurd (not_stopped expected ts (Token t s left) (front ts) same none)
closed_memory expected ts left e same (inr (inr (inr (text, s, none, ended)))) = absurd (not_stopped expected ts (Failed text s) (front ts) same none)

-- reading stops at the same place, whatever it reads
pub stops_there : {A : Type 0} (here left : Items) (read : Read A) (e : Error) → read ≡ stopped here → Fails {A = Unit {0}} (stopped here) left e → Fails read left e
stops_there here left read e is h = fails_as (stopped here) read left e (λ z at. let same : here ≡ z = cc in is ∙ ap stopped same) h

-- at the end of the tokens nothing is closed
pub unclosed_at_end : (c : parts.Closer) (ts : Items) → is_end ts ≡ true → closed c ts ≡ stopped ts
unfolding closed_at
unclosed_at_end c Ended h = refl
unclosed_at_end c (Failed text span) h = cc
unclosed_at_end c (Token t span items) h = cc

-- the end of a tag that comes next is taken
pub end_eaten : (kind : Kind) (read : Items → Takes Edge) → ((dash : Bool) (span : Span) (us : Items) → read (Token (Finish kind dash) span us) ≡ found (record { dash = dash; span = span }, us))
    → (old new : Position) (b dash : Bool) → FirstIs old.left (Finish kind dash) → 0 < old.sight → Skips old b new → EatsEnd b old new (read old.left)
end_eaten kind read reads old new true dash (span, following, first) some (p, takes) =
    let same : Token (Finish kind dash) span following ≡ Token (seen p.0) p.1 new.left = sym first ∙ takes.1 in
    let here : span ≡ new.span = span_first _ _ _ _ _ _ same ∙ sym takes.5 in
    let left : following ≡ new.left = after_first _ _ _ _ _ _ same in
    (dash, ap read first ∙ reads dash span following ∙ (λ i. found (record { dash = dash; span = here i }, left i)), took_token old new p takes)
  where
    span_first : (t u : Tok) (s r : Span) (us vs : Items) → Token t s us ≡ Token u r vs → s ≡ r
    span_first t u s r us vs h = cc

    after_first : (t u : Tok) (s r : Span) (us vs : Items) → Token t s us ≡ Token u r vs → us ≡ vs
    after_first t u s r us vs h = cc
end_eaten kind read reads old new false dash first some (none, same) = absurd (omega (arith, some, none))
