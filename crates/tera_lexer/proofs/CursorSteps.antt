-- A cursor that goes on by one token.
use Rattle.std.proofs.Common.{◌≡◌, ℕ, suc, ◌<◌, ◌+◌, ◌^◌, length, List, Option, Some, None, Result, Ok, Err, ap, sym, ◌∙◌, refl, subst, arith}
use Rattle.tera_base.specs.declared.utils.Span.{Span}
use Rattle.tera_base.specs.declared.errors.Error.{Error}
use Rattle.tera_lexer.specs.grammar.Place.{IsWithin}
use Rattle.tera_lexer.specs.grammar.Tokens as toks
use Rattle.tera_lexer.specs.grammar.Tokens.{Tok, Items, Ended, Failed}
use Rattle.tera_lexer.specs.reading.Stream.{Stream}
use Rattle.tera_lexer.specs.code.Steps.{Stops, Steps}
use Rattle.tera_lexer.specs.code.Seen.{seen}
use Rattle.tera_lexer.specs.code.Cursors.{Takes, size}
use Rattle.tera_lexer.specs.grammar.Lexed.{AreLexed}
use Rattle.tera_lexer.specs.code.CursorView.{stopped_before, with_item, left_after, in_sight, position_of, IsReadAhead, Follows, AreReadAhead, IsTokenAhead}
use Rattle.tera_lexer.specs.declared.lexer.tokens.Token.{Token}
use Rattle.tera_lexer.specs.declared.lexer.cursor.Cursor.TheInside.{Inside}
use Rattle.tera_lexer.proofs.Tilings.{lexed_after}

-- what was left comes from the item that was read, and from what is left after it
pub left_on : (r new : Stream) (item : Option (Result (Token × Span) Error)) → Steps r item new → r.left ≡ with_item (stopped_before new) item new.left
left_on r new None (same, ended) = ap (λ (k : Stream). k.left) (sym same)
left_on r new (Some (Ok p)) (left, is, at) = left
left_on r new (Some (Err e)) (is, stops) = sym (ap stopped_before is)

token_not_ended : {t : Tok} {s : Span} {items : Items} {A : Type 0} → toks.Token t s items ≡ Ended → A
token_not_ended e = cc

pub stops_not_ended : (source : List ℕ) (items : Items) (e : Error) {A : Type 0} → items ≡ Ended → Stops source items e → A
stops_not_ended source Ended e is stops = absurd stops
stops_not_ended source (Failed text span) e is stops = cc
stops_not_ended source (toks.Token t span items) e is stops = token_not_ended is

-- at the end nothing more is read
steps_ended : (r new : Stream) (item : Option (Result (Token × Span) Error)) → r.left ≡ Ended → Steps r item new → (item ≡ None) × (new ≡ r)
steps_ended r new None ended (same, left) = (refl, same)
steps_ended r new (Some (Ok p)) ended (left, is, at) = token_not_ended (sym left ∙ ended)
steps_ended r new (Some (Err e)) ended (is, stops) = stops_not_ended r.source r.left e ended stops

pub steps_whole : (r new : Stream) (item : Option (Result (Token × Span) Error)) → Steps r item new → new.source ≡ r.source
steps_whole r new None (same, ended) = ap (λ (k : Stream). k.source) same
steps_whole r new (Some (Ok p)) (left, is, at) = ap (λ (k : Stream). k.source) is
steps_whole r new (Some (Err e)) (is, stops) = ap (λ (k : Stream). k.source) is

pub read_ahead : (r new : Stream) (item : Option (Result (Token × Span) Error)) → Steps r item new → IsReadAhead new item
read_ahead r new None (same, ended) = ap (λ (k : Stream). k.left) same ∙ ended
read_ahead r new (Some (Ok p)) (left, is, at) = subst (λ (k : Stream). IsWithin k.source p.1) (sym is) at.0
read_ahead r new (Some (Err e)) (is, stops) = subst (λ (k : Stream). IsReadAhead k (Some (Err e))) (sym is) (refl, stops)

-- one item further
pub record GoesFurther (r new : Stream) (second third : Option (Result (Token × Span) Error)) : Type 0 where
  pub left : with_item (stopped_before r) second r.left ≡ left_after new second third
  pub near : IsReadAhead new second
  pub far : IsReadAhead new third
  pub follows : Follows second third
  pub whole : new.source ≡ r.source

pub further : (r new : Stream) (second third : Option (Result (Token × Span) Error)) → IsReadAhead r second → Steps r third new → GoesFurther r new second third
further r new (Some (Ok p)) third is steps =
    record {
      left = ap (toks.Token (seen p.0) p.1) (left_on r new third steps);
      near = subst (λ s. IsWithin s p.1) (sym (steps_whole r new third steps)) is;
      far = read_ahead r new third steps;
      follows = tt;
      whole = steps_whole r new third steps;
    }
further r new None third is steps =
    let (none, same) = steps_ended r new third is steps in
    record {
      left = left_on r new third steps;
      near = ap (λ (k : Stream). k.left) same ∙ is;
      far = read_ahead r new third steps;
      follows = none;
      whole = steps_whole r new third steps;
    }
further r new (Some (Err e)) third is steps =
    let (none, same) = steps_ended r new third is.0 steps in
    record {
      left = ap stopped_before (sym same);
      near = subst (λ (k : Stream). IsReadAhead k (Some (Err e))) (sym same) is;
      far = read_ahead r new third steps;
      follows = none;
      whole = steps_whole r new third steps;
    }

-- taking the item that was read first
module _ (r new : Stream) (second third : Option (Result (Token × Span) Error)) (on : GoesFurther r new second third) where
  abbrev following : Items
  following = left_after new second third

  pub taken_left : (p : Token × Span) → left_after r (Some (Ok p)) second ≡ toks.Token (seen p.0) p.1 following
  taken_left p = ap (toks.Token (seen p.0) p.1) on.left

-- what is so of the fields of a cursor that took the next token
pub took_ahead : (old new : Inside) (p : Token × Span) (third : Option (Result (Token × Span) Error)) → AreReadAhead old → old.first ≡ Some (Ok p) → new.first ≡ old.second → new.second ≡ third → Steps old.tokens third new.tokens → new.taken ≡ old.taken + 1 → new.current_span ≡ p.1 → AreReadAhead new
took_ahead old new p third are first near far steps taken span =
    let on = further old.tokens new.tokens old.second third are.second steps in
    let here : left_after old.tokens old.first old.second ≡ toks.Token (seen p.0) p.1 (left_after new.tokens old.second third)
    = ap (λ o. left_after old.tokens o old.second) first ∙ taken_left old.tokens new.tokens old.second third on p in
    let left : left_after new.tokens old.second third ≡ left_after new.tokens new.first new.second = λ i. left_after new.tokens (sym near i) (sym far i) in
    let is_first : IsReadAhead old.tokens (Some (Ok p)) = subst (IsReadAhead old.tokens) first are.first in
    record {
      first = subst (IsReadAhead new.tokens) (sym near) on.near;
      second = subst (IsReadAhead new.tokens) (sym far) on.far;
      follows = subst (λ o. Follows o new.second) (sym near) (subst (Follows old.second) (sym far) on.follows);
      tokens = subst AreLexed left (lexed_after (seen p.0) p.1 (left_after new.tokens old.second third) (subst AreLexed here are.tokens));
      count = omega (arith, are.count, ap size here, ap size left, taken, ap length on.whole);
      fits = subst (λ (l : List ℕ). length l < 2 ^ 64) (sym on.whole) are.fits;
      span = subst (IsWithin new.tokens.source) (sym span) (subst (λ l. IsWithin l p.1) (sym on.whole) is_first);
    }

-- whether an item can be shown does not hang on what is after it
sight_of : (item : Option (Result (Token × Span) Error)) (m n : ℕ) → 0 < in_sight item m → 0 < in_sight item n
sight_of None m n some = absurd (omega (arith, some))
sight_of (Some (Ok p)) m n some = omega arith
sight_of (Some (Err e)) m n some = absurd (omega (arith, some))

-- and so the next token was taken
pub took : (old new : Inside) (p : Token × Span) (third : Option (Result (Token × Span) Error)) → AreReadAhead old → old.first ≡ Some (Ok p) → new.first ≡ old.second → new.second ≡ third → Steps old.tokens third new.tokens → new.taken ≡ old.taken + 1 → new.current_span ≡ p.1 → Takes (position_of old) (Ok (Some p)) (position_of new)
took old new p third are first near far steps taken span =
    let on = further old.tokens new.tokens old.second third are.second steps in
    let here : left_after old.tokens old.first old.second ≡ toks.Token (seen p.0) p.1 (left_after new.tokens old.second third)
    = ap (λ o. left_after old.tokens o old.second) first ∙ taken_left old.tokens new.tokens old.second third on p in
    let left : left_after new.tokens old.second third ≡ left_after new.tokens new.first new.second = λ i. left_after new.tokens (sym near i) (sym far i) in
    let sight : in_sight old.first (in_sight old.second 0) ≡ suc (in_sight old.second 0) = ap (λ o. in_sight o (in_sight old.second 0)) first in
    let next : in_sight new.first (in_sight new.second 0) ≡ in_sight old.second (in_sight new.second 0) = ap (λ o. in_sight o (in_sight new.second 0)) near in (
      omega (arith, sight),
      here ∙ ap (toks.Token (seen p.0) p.1) left,
      subst (IsReadAhead old.tokens) first are.first,
      on.whole,
      taken,
      span,
      (
        λ more. rw next (sight_of old.second 0 (in_sight new.second 0) (omega (arith, sight, more))),
        λ some. let shown = sight_of old.second (in_sight new.second 0) 0 (rw (sym next) some) in omega (arith, sight, shown),
      ),
    )

pub some_left : (r : Stream) (first second : Option (Result (Token × Span) Error)) (p : Token × Span) → first ≡ Some (Ok p) → 0 < size (left_after r first second)
some_left r first second p e = rw e (omega arith)

-- what is shown was read ahead
some_same : {A : Type 0} {a b : A} → Some a ≡ Some b → a ≡ b
some_same e = cc

some_none : {A B : Type 0} {a : A} → Some a ≡ None → B
some_none e = cc

pub shown_is : (item : Option (Result (Token × Span) Error)) (p : Token × Span) → IsTokenAhead item (Some p) → item ≡ Some (Ok p)
shown_is None p is = some_none is
shown_is (Some (Err e)) p is = some_none is
shown_is (Some (Ok q)) p is = ap (λ k. Some (Ok k)) (sym (some_same is))
