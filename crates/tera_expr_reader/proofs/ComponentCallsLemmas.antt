-- Reading the names and the ends of calls of components.
use Rattle.std.proofs.Common.{◌≡◌, ℕ, zero, suc, Bool, true, false, List, Option, Some, None, refl, ap, ◌∙◌, ◌≤◌, sym, subst, arith}
use Rattle.tera_base.specs.declared.errors.Error.{Error}
use Rattle.tera_base.specs.declared.utils.Span.{Span}
use Rattle.tera_lexer.specs.grammar.Tokens.{Tok, Ident, Items, Token}
use Rattle.tera_lexer.specs.code.Cursors.{Position, size}
use Rattle.tera_ast.specs.Tree as tree
use Rattle.tera_grammar.specs.Reads.{Read, found, stopped, ◌>>=◌, Takes, Fails}
use Rattle.tera_grammar.specs.expressions.Operators.{Div, GreaterThan}
use Rattle.tera_grammar.specs.expressions.Marks.{Dot, Operation}
use Rattle.tera_grammar.specs.expressions.Companions.{Path, path_output}
use Rattle.tera_grammar.specs.expressions.Concrete.{Name, Tree, Atomic, Component, Dotted, dots, Attributes}
use Rattle.tera_grammar.specs.expressions.Output.{output, attributes_output}
use Rattle.tera_grammar.specs.expressions.Spans.{spanning}
use Rattle.tera_grammar.specs.expressions.Reading.Front.{Place, at, Reads, moved, takes, skip, taken_name, name_of}
use Rattle.tera_grammar.specs.expressions.Reading.Rooms.{Room}
use Rattle.tera_grammar.specs.expressions.Reading.Bracketed.{Reader, dotted_at, dotted_by, dotted_of, attributes_of}
use Rattle.tera_grammar.specs.expressions.Reading.Whole.{left_over, path_of}
use Rattle.tera_grammar.specs.expressions.Reading.Atoms.{component_of}
use Rattle.tera_grammar.specs.statements.Reading.Components.{is_name}
use Rattle.tera_expr_parts.specs.Attributes.{closed_at}
use Rattle.tera_expect.specs.Taking.{EatsName, Took}
use Rattle.tera_expect.proofs.Steps.{failed, failed_past, failed_as, skipped, unskipped, named, unnamed}
use Rattle.std.specs.Borrow.{Bor}

-- names are read alike whatever the links
abbrev dotted_with : Span → Name → Reads Dotted → Reads Dotted
dotted_with s n o = o >>= λ ds. found (dots s n ds.0, ds.1)

abbrev dots_after : ℕ → Span → Reads Name → Reads Dotted
dots_after f s o = o >>= λ n. dotted_with s n.0 (dotted_by f n.1)

abbrev Alike : ℕ → (Place → Reads Dotted) → Items → Type 0
Alike k read ts = read (at k ts) ≡ moved k (left_over (read (at 0 ts)))

carried : (k : ℕ) (s : Span) (n : Name) (o : Reads Dotted) → dotted_with s n (moved k (left_over o)) ≡ moved k (left_over (dotted_with s n o))
carried k s n (stopped z) = refl
carried k s n (found ds) = refl

after_dot : (f k : ℕ) (s : Span) (us : Items) (o : Takes Name) → taken_name us ≡ o → ((vs : Items) → Alike k (dotted_by f) vs)
    → dots_after f s (name_of (at k us)) ≡ moved k (left_over (dots_after f s (name_of (at 0 us))))
after_dot f k s us (stopped z) is same = rw (unnamed k us z is, unnamed 0 us z is) refl
after_dot f k s us (found n) is same =
    rw (named k us n.1 n.0 is, named 0 us n.1 n.0 is) (ap (dotted_with s n.0) (same n.1) ∙ carried k s n.0 (dotted_by f (at 0 n.1)))

at_dot : (f k : ℕ) (ts : Items) (o : Takes Span) → takes Dot ts ≡ o → ((vs : Items) → Alike k (dotted_by f) vs)
    → Alike k (λ p. dotted_at (dotted_by f) p (skip Dot p)) ts
at_dot f k ts (stopped z) is same = rw (unskipped Dot k ts z is, unskipped Dot 0 ts z is) refl
at_dot f k ts (found x) is same = rw (skipped Dot k ts x.1 x.0 is, skipped Dot 0 ts x.1 x.0 is) (after_dot f k x.0 x.1 (taken_name x.1) refl same)

further_by : (f k : ℕ) (ts : Items) → Alike k (dotted_by f) ts
unfolding dotted_by
further_by zero k ts = refl
further_by (suc f) k ts = at_dot f k ts (takes Dot ts) refl (λ vs. further_by f k vs)

further : (k : ℕ) (ts : Items) → Alike k dotted_of ts
unfolding dotted_of
further k ts = further_by (suc (size ts)) k ts

-- what is read after a name
abbrev path_with : Name → Reads Dotted → Reads Path
path_with n o = o >>= λ ds. found (record { name = n; further = ds.0 }, ds.1)

module _ {B : Type 0} (k : ℕ) (g : Name → Dotted → Place → Read B) where
  abbrev after_path : Takes Path → Read B
  after_path o = o >>= λ x. g x.0.name x.0.further (at k x.1)

  abbrev after_dots : Name → Reads Dotted → Read B
  after_dots n o = o >>= λ ds. g n ds.0 ds.1

  abbrev after_name : Reads Name → Read B
  after_name o = o >>= λ n. after_dots n.0 (dotted_of n.1)

  dots_on : (n : Name) (o : Reads Dotted) → after_dots n (moved k (left_over o)) ≡ after_path (left_over (path_with n o))
  dots_on n (stopped z) = refl
  dots_on n (found ds) = refl

  path_by : (ts : Items) (o : Takes Name) → taken_name ts ≡ o → after_name (name_of (at k ts)) ≡ after_path (path_of ts)
  unfolding path_of
  path_by ts (stopped z) is = rw (unnamed k ts z is, unnamed 0 ts z is) refl
  path_by ts (found n) is = rw (named k ts n.1 n.0 is, named 0 ts n.1 n.0 is) (ap (after_dots n.0) (further k n.1) ∙ dots_on n.0 (dotted_of (at 0 n.1)))

-- what is read after `/` and `>`
module _ {B : Type 0} (k : ℕ) (g : Span → Span → Place → Read B) where
  abbrev after_close : Takes (Span × Span) → Read B
  after_close o = o >>= λ x. g x.0.0 x.0.1 (at k x.1)

  abbrev after_slash : Reads Span → Read B
  after_slash o = o >>= λ t. skip (Operation GreaterThan) t.1 >>= λ u. g t.0 u.0 u.1

  slash_on : (t : Span) (us : Items) (o : Takes Span) → takes (Operation GreaterThan) us ≡ o
      → after_slash (found (t, at k us)) ≡ after_close (takes (Operation GreaterThan) us >>= λ u. found ((t, u.0), u.1))
  slash_on t us (stopped z) is = rw (unskipped (Operation GreaterThan) k us z is, is) refl
  slash_on t us (found u) is = rw (skipped (Operation GreaterThan) k us u.1 u.0 is, is) refl

  close_by : (ts : Items) (o : Takes Span) → takes (Operation Div) ts ≡ o → after_slash (skip (Operation Div) (at k ts)) ≡ after_close (closed_at ts)
  close_by ts (stopped z) is = rw (unskipped (Operation Div) k ts z is, is) refl
  close_by ts (found t) is = rw (skipped (Operation Div) k ts t.1 t.0 is, is) (slash_on t.0 t.1 (takes (Operation GreaterThan) t.1) refl)

-- a call of a component
no_name : (ts : Items) → is_name ts ≡ false → taken_name ts ≡ stopped ts
no_name (Token t s us) h = by t h
  where
    by : (t : Tok) → is_name (Token t s us) ≡ false → taken_name (Token t s us) ≡ stopped (Token t s us)
    by (Ident text) h = cc
    by _ h = refl
no_name _ h = refl

module _ (f : Reader) (w : Room) (s : Span) (k : ℕ) where
  abbrev closing_call : Name → Dotted → Reads Attributes → Reads Tree
  closing_call n ds o =
      o >>= λ r. skip (Operation Div) r.1 >>= λ t. skip (Operation GreaterThan) t.1 >>= λ u. found (Atomic (Component s n ds r.0 t.0 u.0), u.1)

  abbrev after_call_name : Name → Dotted → Place → Reads Tree
  after_call_name n ds q = closing_call n ds (attributes_of f w q)

  component_is : (ts : Items) → component_of f w s (at k ts) ≡ after_path k after_call_name (path_of ts)
  unfolding component_of
  component_is ts = path_by k after_call_name ts (taken_name ts) refl

  pub unnamed_component : (ts : Items) → is_name ts ≡ false → component_of f w s (at k ts) ≡ stopped ts
  unfolding component_of
  unnamed_component ts h = rw (unnamed k ts ts (no_name ts h)) refl

  pub component_no_path : (ts left : Items) (e : Error) → Fails (path_of ts) left e → Fails (component_of f w s (at k ts)) left e
  component_no_path ts left e h = rw (component_is ts) (failed (path_of ts) _ left e h)

  pub component_no_attributes : (ts us : Items) (x : Path) (left : Items) (e : Error) → path_of ts ≡ found (x, us) → Fails (attributes_of f w (at k us)) left e → Fails (component_of f w s (at k ts)) left e
  component_no_attributes ts us x left e path h = rw (component_is ts) (failed_past (path_of ts) _ (x, us) left e path (failed (attributes_of f w (at k us)) _ left e h))

  abbrev call_made : Path → Attributes → Span → Span → Place → Reads Tree
  call_made x r t u q = found (Atomic (Component s x.name x.further r t u), q)

  closed_component : (ts us vs : Items) (j : ℕ) (x : Path) (r : Attributes) → path_of ts ≡ found (x, us) → attributes_of f w (at k us) ≡ found (r, at j vs)
      → component_of f w s (at k ts) ≡ after_close j (call_made x r) (closed_at vs)
  closed_component ts us vs j x r path read =
      component_is ts ∙ ap (after_path k after_call_name) path ∙ ap (closing_call x.name x.further) read ∙ close_by j (call_made x r) vs (takes (Operation Div) vs) refl

  pub component_unclosed : (ts us vs : Items) (j : ℕ) (x : Path) (r : Attributes) (left : Items) (e : Error) → path_of ts ≡ found (x, us) → attributes_of f w (at k us) ≡ found (r, at j vs)
      → Fails (closed_at vs) left e → Fails (component_of f w s (at k ts)) left e
  component_unclosed ts us vs j x r left e path read h =
      failed_as (closed_at vs) (component_of f w s (at k ts)) left e (λ z none. closed_component ts us vs j x r path read ∙ ap (after_close j (call_made x r)) none) h

  pub component_given : (ts us vs zs : Items) (j : ℕ) (x : Path) (r : Attributes) (t u : Span) → path_of ts ≡ found (x, us) → attributes_of f w (at k us) ≡ found (r, at j vs)
      → closed_at vs ≡ found ((t, u), zs) → component_of f w s (at k ts) ≡ found (Atomic (Component s x.name x.further r t u), at j zs)
  component_given ts us vs zs j x r t u path read closed = closed_component ts us vs j x r path read ∙ ap (after_close j (call_made x r)) closed

pub component_shown : (l : Bool) (s t u : Span) (x : Path) (r : Attributes) (name : List ℕ) (es : tree.Entries) (body : tree.Nodes) (span : Span)
    → name ≡ path_output x → es ≡ attributes_output l r → body ≡ tree.NoNodes → span ≡ spanning s u
    → tree.ComponentCall name es body true span ≡ output l (Atomic (Component s x.name x.further r t u))
component_shown l s t u x r name es body span name_is es_are none span_is = rw (name_is, es_are, none, span_is) refl

-- a name that was taken or not
pub names_size : (o : Option (Bor (List ℕ))) (old new : Position) (read : Takes Name) → EatsName o old new read → size new.left ≤ size old.left
unfolding Took
names_size (Some s) old new read (taken, took) = omega (arith, took.1)
names_size None old new read (none, same) = subst (λ (q : Position). size q.left ≤ size old.left) (sym same) (omega arith)
