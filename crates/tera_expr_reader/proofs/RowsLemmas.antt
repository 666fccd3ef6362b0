-- Rows that are read element by element.
use Rattle.std.proofs.Common.{◌≡◌, inl, inr, ℕ, Bool, true, false, not, Option, Some, None, Result, Ok, Err, refl, sym, ap, subst, ◌∙◌}
use Rattle.tera_base.specs.declared.utils.Span.{Span}
use Rattle.tera_base.specs.declared.errors.Error.{Error}
use Rattle.tera_lexer.specs.code.Cursors.{Position}
use Rattle.tera_lexer.specs.grammar.Tokens.{Items}
use Rattle.tera_ast.specs.View.{expression_view}
use Rattle.tera_ast.specs.declared.ast.Expression.{Expression}
use Rattle.tera_grammar.specs.expressions.Marks.{Comma, mark}
use Rattle.tera_grammar.specs.expressions.Concrete.{Kind, of_arguments, of_items, of_entries, closing, Row, ended, only, then, Element}
use Rattle.tera_grammar.specs.expressions.Stack.{Gives}
use Rattle.tera_grammar.specs.Reads.{Read, found, stopped, ◌>>=◌, Takes, Fails}
use Rattle.tera_grammar.specs.expressions.Reading.Front.{Place, at, Reads, takes, skip}
use Rattle.tera_grammar.specs.expressions.Reading.Rooms.{Room}
use Rattle.tera_grammar.specs.expressions.Reading.Bracketed.{Reader, element_of, comma_at, after_element, row_at, row_of}
use Rattle.tera_grammar.specs.expressions.Reading.Loop.{expr, fresh}
use Rattle.tera_grammar.proofs.Readings.{fails_as}
use Rattle.tera_grammar.proofs.stops.Fronts.{takes_ok, none_skip, skip_taken}
use Rattle.tera_grammar.proofs.stops.Lowest.{IsLocal}
use Rattle.tera_grammar.proofs.stops.Loop.{expr_local}
use Rattle.tera_grammar.proofs.stops.Whole.{fresh_local}
use Rattle.tera_grammar.proofs.stops.Bracketed.{row_steps}
use Rattle.tera_expr_parts.specs.declared.rows.Values.{Values}
use Rattle.tera_expr_parts.specs.CommaLists.{reader_by, reader_of, Continues}
use Rattle.tera_expect.specs.Taking.{Eats, GoesOn, Took}
use Rattle.tera_expect.proofs.TakingLemmas.{stays, took_goes, goes_took}

pub fresh_given : (l : Bool) (result : Result Expression Error) (n i j : ℕ) (old new : Items) (d : ℕ) (w : Room) (m : ℕ)
    → Gives expression_view l result (at j new) (expr d w m (at n old)) → Gives expression_view l result (at i new) (fresh n (expr d) w m (at i old))
unfolding fresh
fresh_given l (Ok e) n i j old new d w m (t, read, is) = (t, ap (λ o. o >>= λ x. found (x.0, at i x.1.tokens)) read, is)
fresh_given l (Err e) n i j old new d w m h =
    fails_as (expr d w m (at n old)) (expr d w m (at n old) >>= λ x. found (x.0, at i x.1.tokens)) new e (λ z none. ap (λ o. o >>= λ x. found (x.0, at i x.1.tokens)) none) h

-- each reader of values is local
pub reader_local : (d : ℕ) (own : Option ℕ) (w : Room) (m k : ℕ) (ts : Items) → IsLocal (λ us. reader_by d own w m (at k us)) ts
reader_local d None w m k ts = expr_local d w m k ts
reader_local d (Some n) w m k ts = fresh_local n (expr d) (expr_local d) w m k ts

-- the equation of a loop over a row
pub steps_by : (d : ℕ) (own : Option ℕ) (w : Room) (k : Kind) (p : Place)
    → row_of (reader_by d own) w k p ≡ row_at (row_of (reader_by d own) w k) (reader_by d own) w k p (skip (closing k) p)
steps_by d own w k p = row_steps (reader_by d own) (reader_local d own) w k p

pub steps : (v : Values) (w : Room) (k : Kind) (p : Place)
    → row_of (reader_of v) w k p ≡ row_at (row_of (reader_of v) w k) (reader_of v) w k p (skip (closing k) p)
steps v w k p = steps_by v.depth v.own w k p

pub bind_assoc : {A B C : Type 0} (o : Read A) (f : A → Read B) (g : B → Read C) → ((o >>= f) >>= g) ≡ (o >>= λ x. f x >>= g)
bind_assoc (stopped z) f g = refl
bind_assoc (found x) f g = refl

pub bind_some : {A B : Type 0} (o : Read (A × B)) → (o >>= λ x. found (x.0, x.1)) ≡ o
bind_some (stopped z) = refl
bind_some (found x) = refl

-- a row whose next element is here
abbrev pub coming : Reader → Room → Kind → Place → Reads Row
coming f w k p = row_at (row_of f w k) f w k p (stopped p.tokens)

-- what is read so far is put in front of a row that goes on, or the row is read
pub record Opening (f : Reader) (w : Room) (k : Kind) (whole : Reads Row) (now : Place) (Keeps : (Row → Row) → Type 0) : Type 0 where
  pub put : Row → Row
  pub reads : whole ≡ (coming f w k now >>= λ r. found (put r.0, r.1))
  pub keeps : Keeps put

pub record Closing (whole : Reads Row) (now : Place) (Is : Row → Type 0) : Type 0 where
  pub row : Row
  pub reads : whole ≡ found (row, now)
  pub is : Is row

abbrev pub Rowing : Bool → Reader → Room → Kind → Reads Row → Place → ((Row → Row) → Type 0) → (Row → Type 0) → Type 0
Rowing true f w k whole now Keeps Is = Opening f w k whole now Keeps
Rowing false f w k whole now Keeps Is = Closing whole now Is

pub begun : (v : Values) (w : Room) (k : Kind) (i : ℕ) (old new : Position) (b : Bool) (Keeps : (Row → Row) → Type 0) (Is : Row → Type 0)
    → Eats b old new (takes (closing k) old.left) → Keeps (λ r. r) → Is (ended new.span)
    → Rowing (not b) (reader_of v) w k (row_of (reader_of v) w k (at i old.left)) (at i new.left) Keeps Is
begun v w k i old new true Keeps Is (read, took) keeps is = record {
  row = ended new.span;
  reads = steps v w k (at i old.left)
      ∙ ap (row_at (row_of (reader_of v) w k) (reader_of v) w k (at i old.left)) (skip_taken (closing k) i old.left new.left new.span read);
  is = is;
}
begun v w k i old new false Keeps Is (read, same) keeps is =
    subst (λ (q : Position). Opening (reader_of v) w k (row_of (reader_of v) w k (at i old.left)) (at i q.left) Keeps) (sym same) (record {
      put = λ r. r;
      reads = steps v w k (at i old.left) ∙ ap (row_at (row_of (reader_of v) w k) (reader_of v) w k (at i old.left)) (none_skip (closing k) i old.left old.left read)
          ∙ sym (bind_some (coming (reader_of v) w k (at i old.left)));
      keeps = keeps;
    })

no_comma : (k : Kind) (s : Span) (us : Items) → takes Comma (mark (closing k) s us) ≡ stopped (mark (closing k) s us)
no_comma of_arguments s us = refl
no_comma of_items s us = refl
no_comma of_entries s us = refl

closed_no_comma : (k : Kind) (r us : Items) (s : Span) → takes (closing k) r ≡ found (s, us) → takes Comma r ≡ stopped r
closed_no_comma k r us s h = let is = takes_ok (closing k) r (s, us) h in ap (takes Comma) is ∙ no_comma k s us ∙ ap stopped (sym is)

module _ (v : Values) (w : Room) (k : Kind) (whole : Reads Row) (put : Row → Row) (x : Element) (i : ℕ) (old : Items) where
  abbrev pub After : Type 0
  After = whole ≡ (after_element (row_of (reader_of v) w k) k x (at i old) >>= λ r. found (put r.0, r.1))

  abbrev at_comma : Reads Span → Reads Row
  at_comma o = comma_at (row_of (reader_of v) w k) k x (at i old) o >>= λ r. found (put r.0, r.1)

  abbrev one : Reads Span → Reads Row
  one o = o >>= λ c. found (only x c.0, c.1)

  abbrev at_end : Reads Span → Reads Row
  at_end o = one o >>= λ r. found (put r.0, r.1)

  abbrev on : Span → Reads Row → Reads Row
  on s o = o >>= λ r. found (then x s r.0, r.1)

  abbrev onto : Span → Reads Row → Reads Row
  onto s o = on s o >>= λ r. found (put r.0, r.1)

  -- after an element
  pub following : (new : Position) (b : Bool) (Keeps : (Row → Row) → Type 0) (Is : Row → Type 0) → After → Continues (closing k) old new (Ok b)
      → ((c : Span) → Keeps (λ r. put (then x c r))) → Is (put (only x new.span)) → ((c : Span) → Is (put (then x c (ended new.span))))
      → Rowing b (reader_of v) w k whole (at i new.left) Keeps Is
  unfolding after_element
  following new true Keeps Is after (s, comma, none) keeps last_is is = record {
    put = λ r. put (then x s r);
    reads = after ∙ ap at_comma (skip_taken Comma i old new.left s comma)
        ∙ ap (onto s) (steps v w k (at i new.left) ∙ ap (row_at (row_of (reader_of v) w k) (reader_of v) w k (at i new.left)) (none_skip (closing k) i new.left new.left none))
        ∙ bind_assoc (coming (reader_of v) w k (at i new.left)) (λ r. found (then x s r.0, r.1)) (λ r. found (put r.0, r.1));
    keeps = keeps s;
  }
  following new false Keeps Is after (inl ends) keeps last_is is = record {
    row = put (only x new.span);
    reads = after ∙ ap at_comma (none_skip Comma i old old (closed_no_comma k old new.left new.span ends)) ∙ ap at_end (skip_taken (closing k) i old new.left new.span ends);
    is = last_is;
  }
  following new false Keeps Is after (inr (s, us, comma, ends)) keeps last_is is = record {
    row = put (then x s (ended new.span));
    reads = after ∙ ap at_comma (skip_taken Comma i old us s comma)
        ∙ ap (onto s) (steps v w k (at i us) ∙ ap (row_at (row_of (reader_of v) w k) (reader_of v) w k (at i us)) (skip_taken (closing k) i us new.left new.span ends));
    is = is s;
  }

  pub after_fails : (new : Position) (e : Error) → After → Continues (closing k) old new (Err e) → Fails whole new.left e
  unfolding after_element
  after_fails new e after (inl memory) = inl memory
  after_fails new e after (inr (comma, ends)) = fails_as (takes (closing k) old) whole new.left e (λ z none. after ∙ ap at_comma (none_skip Comma i old old comma) ∙ ap at_end (none_skip (closing k) i old z none)) (inr ends)

-- an element of a row that goes on
module _ (f : Reader) (w : Room) (k : Kind) (whole : Reads Row) (now : Place) (Keeps : (Row → Row) → Type 0) (o : Opening f w k whole now Keeps) where
  abbrev with_element : Reads Element → Reads Row
  with_element e = (e >>= λ x. after_element (row_of f w k) k x.0 x.1) >>= λ r. found (o.put r.0, r.1)

  pub element_read : (x : Element) (q : Place) → element_of f w k now ≡ found (x, q)
      → whole ≡ (after_element (row_of f w k) k x q >>= λ r. found (o.put r.0, r.1))
  element_read x q h = o.reads ∙ ap with_element h

  pub element_fails : (z : Items) → element_of f w k now ≡ stopped z → whole ≡ stopped z
  element_fails z h = o.reads ∙ ap with_element h

-- how the cursor goes on over a row that may have an end
abbrev pub Gone : Bool → Position → Position → Type 0
Gone true old new = GoesOn old new
Gone false old new = Took old new

pub gone_begun : (b : Bool) (old new : Position) (read : Takes Span) → Eats b old new read → Gone (not b) old new
gone_begun true old new read (h, took) = took
gone_begun false old new read (h, same) = subst (λ (q : Position). GoesOn old q) (sym same) (stays old)

pub gone_on : (b : Bool) (old mid new : Position) → GoesOn old mid → Took mid new → Gone b old new
gone_on true old mid new before took = took_goes old new (goes_took old mid new before took)
gone_on false old mid new before took = goes_took old mid new before took

-- reading stops where a part of it does
pub fails_by : {A B : Type 0} (whole : Read A) (part : Read B) (left : Items) (e : Error) → ((z : Items) → part ≡ stopped z → whole ≡ stopped z) → Fails part left e → Fails whole left e
fails_by whole part left e none h = fails_as part whole left e none h
