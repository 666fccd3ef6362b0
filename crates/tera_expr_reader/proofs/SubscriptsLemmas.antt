-- Reading subscripts.
use Rattle.std.proofs.Common.{◌≡◌, ℕ, Bool, true, false, Option, Some, Result, refl, sym, subst}
use Rattle.tera_base.specs.declared.errors.Error.{Error}
use Rattle.tera_base.specs.declared.utils.Span.{Span}
use Rattle.tera_lexer.specs.code.Cursors.{Position}
use Rattle.tera_lexer.specs.grammar.Tokens.{Items, Ended, Failed, Token}
use Rattle.tera_grammar.specs.Reads.{Read, found, stopped, ◌>>=◌, Fails}
use Rattle.tera_grammar.specs.expressions.Marks.{Mark, RightBracket, Colon}
use Rattle.tera_grammar.specs.expressions.Concrete.{Tree, Sub, index, slice, Part, absent, present, Extra, no_extra, extra}
use Rattle.tera_grammar.specs.expressions.Reading.Front.{Place, at, Reads, begins, takes, skip}
use Rattle.tera_grammar.specs.expressions.Reading.Rooms.{Room, inside_subscript}
use Rattle.tera_grammar.specs.expressions.Reading.Bracketed.{Reader, part_of, extra_of, slice_of, index_at, sub_of}
use Rattle.tera_ast.specs.Tree.{Expr}
use Rattle.tera_ast.specs.View.{expression_view}
use Rattle.tera_ast.specs.declared.ast.Expression.{Expression}
use Rattle.tera_grammar.specs.expressions.Output.{output, sub_output}
use Rattle.tera_expect.specs.Taking.{GivesAt}
use Rattle.tera_expr_reader.specs.Chains.{IsPart, IsSubscript, subscripted}
use Rattle.tera_expr_reader.specs.Elements.{IsExtra}
use Rattle.tera_expr_reader.specs.declared.subscripts.Subscript as read
use Rattle.tera_expr_reader.specs.declared.subscripts.Subscript.TheVariants.{Index, Slice}
use Rattle.tera_expr_parts.proofs.RefusedLemmas.{first_there}
use Rattle.tera_expect.proofs.Steps.{failed, failed_past, failed_as, skipped, unskipped}

-- a mark that is not there
pub lacking : (m : Mark) (ts : Items) → begins m ts ≡ false → takes m ts ≡ stopped ts
lacking m Ended h = refl
lacking m (Failed text span) h = refl
lacking m (Token t s us) h = rw h refl

module _ (f : Reader) (w : Room) where
  -- the end of a slice
  pub end_before_colon : (k : ℕ) (ts : Items) → begins Colon ts ≡ true → part_of f w (at k ts) ≡ found (absent, at k ts)
  unfolding part_of
  end_before_colon k ts h = let (s, us, colon) = first_there Colon ts h in rw (skipped Colon k ts us s colon) refl

  pub end_before_bracket : (k : ℕ) (ts : Items) → begins Colon ts ≡ false → begins RightBracket ts ≡ true → part_of f w (at k ts) ≡ found (absent, at k ts)
  unfolding part_of
  end_before_bracket k ts none h =
      let (s, us, bracket) = first_there RightBracket ts h in rw (unskipped Colon k ts ts (lacking Colon ts none), skipped RightBracket k ts us s bracket) refl

  pub end_given : (k : ℕ) (ts : Items) (t : Tree) (q : Place) → begins Colon ts ≡ false → begins RightBracket ts ≡ false → f w 0 (at k ts) ≡ found (t, q) → part_of f w (at k ts) ≡ found (present t, q)
  unfolding part_of
  end_given k ts t q none opening read = rw (unskipped Colon k ts ts (lacking Colon ts none), unskipped RightBracket k ts ts (lacking RightBracket ts opening), read) refl

  -- the step of a slice
  pub no_step : (k : ℕ) (ts : Items) → takes Colon ts ≡ stopped ts → extra_of f w Colon 0 (at k ts) ≡ found (no_extra, at k ts)
  unfolding extra_of
  no_step k ts none = rw (unskipped Colon k ts ts none) refl

  pub step_given : (k : ℕ) (ts us : Items) (s : Span) (t : Tree) (q : Place) → takes Colon ts ≡ found (s, us) → f w 0 (at k us) ≡ found (t, q) → extra_of f w Colon 0 (at k ts) ≡ found (extra s t, q)
  unfolding extra_of
  step_given k ts us s t q colon read = rw (skipped Colon k ts us s colon, read) refl

  -- the parts of a slice
  pub slice_given : (a : Part) (s : Span) (p q : Place) (k : ℕ) (ts us : Items) (b : Part) (x : Extra) (c : Span)
      → part_of f w p ≡ found (b, q) → extra_of f w Colon 0 q ≡ found (x, at k ts) → takes RightBracket ts ≡ found (c, us)
      → slice_of f w a s p ≡ found (slice a s b x c, at k us)
  unfolding slice_of
  slice_given a s p q k ts us b x c ended stepped closed = rw (ended, stepped, skipped RightBracket k ts us c closed) refl

  pub slice_without_end : (a : Part) (s : Span) (p : Place) (left : Items) (e : Error) → Fails (part_of f w p) left e → Fails (slice_of f w a s p) left e
  unfolding slice_of
  slice_without_end a s p left e h = failed (part_of f w p) _ left e h

  pub slice_without_step : (a : Part) (s : Span) (p q : Place) (b : Part) (left : Items) (e : Error) → part_of f w p ≡ found (b, q) → Fails (extra_of f w Colon 0 q) left e → Fails (slice_of f w a s p) left e
  unfolding slice_of
  slice_without_step a s p q b left e ended h = failed_past (part_of f w p) _ (b, q) left e ended (failed (extra_of f w Colon 0 q) _ left e h)

  pub slice_unclosed : (a : Part) (s : Span) (p q : Place) (k : ℕ) (ts : Items) (b : Part) (x : Extra) (left : Items) (e : Error) → part_of f w p ≡ found (b, q) → extra_of f w Colon 0 q ≡ found (x, at k ts)
      → Fails (takes RightBracket ts) left e → Fails (slice_of f w a s p) left e
  unfolding slice_of
  slice_unclosed a s p q k ts b x left e ended stepped h =
      failed_past (part_of f w p) _ (b, q) left e ended (failed_past (extra_of f w Colon 0 q) _ (x, at k ts) left e stepped
      (failed (skip RightBracket (at k ts)) _ left e (failed_as (takes RightBracket ts) (skip RightBracket (at k ts)) left e (unskipped RightBracket k ts) h)))

  -- what is in a subscript
  pub sub_from_colon : (v : Room) (k : ℕ) (ts us : Items) (s : Span) → inside_subscript w ≡ Some v → takes Colon ts ≡ found (s, us) → sub_of f w (at k ts) ≡ slice_of f v absent s (at k us)
  unfolding sub_of
  sub_from_colon v k ts us s opens colon = rw (opens, skipped Colon k ts us s colon) refl

  pub sub_from_first : (v : Room) (k : ℕ) (ts : Items) → inside_subscript w ≡ Some v → takes Colon ts ≡ stopped ts → sub_of f w (at k ts) ≡ (f v 0 (at k ts) >>= λ e. index_at f v e.0 e.1 (skip Colon e.1))
  unfolding sub_of
  sub_from_first v k ts opens none = rw (opens, unskipped Colon k ts ts none) refl

  pub sub_fails : (v : Room) (k : ℕ) (ts left : Items) (e : Error) → inside_subscript w ≡ Some v → takes Colon ts ≡ stopped ts → Fails (f v 0 (at k ts)) left e → Fails (sub_of f w (at k ts)) left e
  sub_fails v k ts left e opens none h = rw (sub_from_first v k ts opens none) (failed (f v 0 (at k ts)) _ left e h)

  pub sub_sliced : (v : Room) (k j : ℕ) (ts us vs : Items) (t : Tree) (s : Span) → inside_subscript w ≡ Some v → takes Colon ts ≡ stopped ts → f v 0 (at k ts) ≡ found (t, at j us) → takes Colon us ≡ found (s, vs)
      → sub_of f w (at k ts) ≡ slice_of f v (present t) s (at j vs)
  sub_sliced v k j ts us vs t s opens none read colon = rw (sub_from_first v k ts opens none, read, skipped Colon j us vs s colon) refl

  pub sub_indexed : (v : Room) (k j : ℕ) (ts us : Items) (t : Tree) → inside_subscript w ≡ Some v → takes Colon ts ≡ stopped ts → f v 0 (at k ts) ≡ found (t, at j us) → takes Colon us ≡ stopped us
      → sub_of f w (at k ts) ≡ (skip RightBracket (at j us) >>= λ c. found (index t c.0, c.1))
  sub_indexed v k j ts us t opens none read alone = rw (sub_from_first v k ts opens none, read, unskipped Colon j us us alone) refl

  pub index_given : (v : Room) (k j : ℕ) (ts us vs : Items) (t : Tree) (c : Span) → inside_subscript w ≡ Some v → takes Colon ts ≡ stopped ts → f v 0 (at k ts) ≡ found (t, at j us) → takes Colon us ≡ stopped us
      → takes RightBracket us ≡ found (c, vs) → sub_of f w (at k ts) ≡ found (index t c, at j vs)
  index_given v k j ts us vs t c opens none read alone closed = rw (sub_indexed v k j ts us t opens none read alone, skipped RightBracket j us vs c closed) refl

  pub index_unclosed : (v : Room) (k j : ℕ) (ts us : Items) (t : Tree) (left : Items) (e : Error) → inside_subscript w ≡ Some v → takes Colon ts ≡ stopped ts → f v 0 (at k ts) ≡ found (t, at j us) → takes Colon us ≡ stopped us
      → Fails (takes RightBracket us) left e → Fails (sub_of f w (at k ts)) left e
  index_unclosed v k j ts us t left e opens none read alone h =
      rw (sub_indexed v k j ts us t opens none read alone) (failed (skip RightBracket (at j us)) _ left e (failed_as (takes RightBracket us) (skip RightBracket (at j us)) left e (unskipped RightBracket j us) h))

-- a slice is read as its parts are
pub sliced_alike : (l : Bool) (i j k : Option Expression) (a b : Part) (x : Extra) (s c : Span) → IsPart l i a → IsPart l j b → IsExtra l k x
    → (o : Bool) (e : Expr) → subscripted (Slice i j k) o e c ≡ sub_output l o e (slice a s b x c)
sliced_alike l i j k a b x s c ha hb hx = λ o e. rw (ha, hb, hx) refl

pub indexed_alike : (l m : Bool) (i : Expression) (t : Tree) (c : Span) → m ≡ l → expression_view i ≡ output m t → (o : Bool) (e : Expr) → subscripted (Index i) o e c ≡ sub_output l o e (index t c)
indexed_alike l m i t c same is = λ o e. rw (is, same) refl

-- a subscript that is read otherwise, in a loop or not
pub read_alike : (l m : Bool) (here : Span) (r : Result read.Subscript Error) (q : Place) (o p : Reads Sub) → m ≡ l → o ≡ p → GivesAt (IsSubscript m here) r q p → GivesAt (IsSubscript l here) r q o
read_alike l m here r q o p same is h = subst (λ b. GivesAt (IsSubscript b here) r q o) same (subst (λ z. GivesAt (IsSubscript m here) r q z) (sym is) h)

-- where nothing was taken
pub untaken : {X : Type 0} (g : Position → Read X) (old new : Position) (left : Items) (e : Error) → new ≡ old → Fails (g new) left e → Fails (g old) left e
untaken g old new left e same h = subst (λ z. Fails (g z) left e) same h
