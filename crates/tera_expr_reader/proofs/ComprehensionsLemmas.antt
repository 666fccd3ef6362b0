-- The parts of a comprehension, one after another.
use Rattle.std.proofs.Common.{◌≡◌, ℕ, List, Option, refl, ap, ◌∙◌}
use Rattle.tera_base.specs.declared.utils.Span.{Span}
use Rattle.tera_lexer.specs.grammar.Tokens.{Items}
use Rattle.tera_ast.specs.Tree.{Expr, MaybeExpr, ListComprehension}
use Rattle.tera_grammar.specs.expressions.Operators.{In}
use Rattle.tera_grammar.specs.expressions.Marks.{Mark, RightBracket, If, Operation}
use Rattle.tera_grammar.specs.expressions.Concrete.{Name, Second, Tree, Atomic, Comprehension, Extra, no_extra, extra}
use Rattle.tera_grammar.specs.Reads.{found, stopped, ◌>>=◌}
use Rattle.tera_grammar.specs.expressions.Reading.Front.{Place, at, Reads, takes, skip}
use Rattle.tera_grammar.specs.expressions.Reading.Rooms.{Room}
use Rattle.tera_grammar.specs.expressions.Reading.Bracketed.{Reader, extra_at, extra_of}
use Rattle.tera_grammar.specs.expressions.Reading.Atoms.{variables_of, comprehension_of}
use Rattle.tera_grammar.proofs.stops.Fronts.{none_skip, skip_taken}

-- an expression after a mark of its own
module _ (f : Reader) (w : Room) (m : Mark) (k i : ℕ) (r : Items) where
  pub extra_absent : takes m r ≡ stopped r → extra_of f w m k (at i r) ≡ found (no_extra, at i r)
  unfolding extra_of
  extra_absent h = ap (extra_at f w k (at i r)) (none_skip m i r r h)

  abbrev extra_made : Span → Reads Tree → Reads Extra
  extra_made s o = o >>= λ e. found (extra s e.0, e.1)

  pub extra_present : (s : Span) (us : Items) (o : Reads Tree) → takes m r ≡ found (s, us) → f w k (at i us) ≡ o → extra_of f w m k (at i r) ≡ extra_made s o
  unfolding extra_of
  extra_present s us o h read = ap (extra_at f w k (at i r)) (skip_taken m i r us s h) ∙ ap (extra_made s) read

-- a comprehension after its `for`
module _ (f : Reader) (w : Room) (b : Span) (e : Tree) (s : Span) where
  abbrev pub after_end : (Name × Second) → Span → Tree → Extra → Reads Span → Reads Tree
  after_end v i t g o = o >>= λ c. found (Atomic (Comprehension b e s v.0 v.1 i t g c.0), c.1)

  abbrev pub after_condition : (Name × Second) → Span → Tree → Reads Extra → Reads Tree
  after_condition v i t o = o >>= λ g. after_end v i t g.0 (skip RightBracket g.1)

  abbrev pub after_target : (Name × Second) → Span → Reads Tree → Reads Tree
  after_target v i o = o >>= λ t. after_condition v i t.0 (extra_of f w If 1 t.1)

  abbrev pub after_in : (Name × Second) → Reads Span → Reads Tree
  after_in v o = o >>= λ i. after_target v i.0 (f w 1 i.1)

  abbrev pub after_variables : Reads (Name × Second) → Reads Tree
  after_variables o = o >>= λ v. after_in v.0 (skip (Operation In) v.1)

  pub by_variables : (p : Place) (o : Reads (Name × Second)) → variables_of p ≡ o → comprehension_of f w b e s p ≡ after_variables o
  unfolding comprehension_of
  by_variables p o h = ap after_variables h

  module _ (p : Place) (v : Name × Second) (i : ℕ) (us : Items) (named : variables_of p ≡ found (v, at i us)) where
    pub no_in : (z : Items) → takes (Operation In) us ≡ stopped z → comprehension_of f w b e s p ≡ stopped z
    no_in z h = by_variables p (found (v, at i us)) named ∙ ap (after_in v) (none_skip (Operation In) i us z h)

    module _ (vs : Items) (n : Span) (inside : takes (Operation In) us ≡ found (n, vs)) where
      pub by_target : (o : Reads Tree) → f w 1 (at i vs) ≡ o → comprehension_of f w b e s p ≡ after_target v n o
      by_target o h = by_variables p (found (v, at i us)) named ∙ ap (after_in v) (skip_taken (Operation In) i us vs n inside) ∙ ap (after_target v n) h

      module _ (t : Tree) (q : Place) (target : f w 1 (at i vs) ≡ found (t, q)) where
        pub by_condition : (o : Reads Extra) → extra_of f w If 1 q ≡ o → comprehension_of f w b e s p ≡ after_condition v n t o
        by_condition o h = by_target (found (t, q)) target ∙ ap (after_condition v n t) h

        module _ (g : Extra) (j : ℕ) (ws : Items) (condition : extra_of f w If 1 q ≡ found (g, at j ws)) where
          pub by_end : (c : Span) (ts : Items) → takes RightBracket ws ≡ found (c, ts) → comprehension_of f w b e s p ≡ found (Atomic (Comprehension b e s v.0 v.1 n t g c), at j ts)
          by_end c ts h = by_condition (found (g, at j ws)) condition ∙ ap (after_end v n t g) (skip_taken RightBracket j ws ts c h)

          pub no_end : (z : Items) → takes RightBracket ws ≡ stopped z → comprehension_of f w b e s p ≡ stopped z
          no_end z h = by_condition (found (g, at j ws)) condition ∙ ap (after_end v n t g) (none_skip RightBracket j ws z h)

pub same_parts : (e f : Expr) (k l : Option (List ℕ)) (n m : List ℕ) (t u : Expr) (g h : MaybeExpr) (s r : Span) → e ≡ f → k ≡ l → n ≡ m → t ≡ u → g ≡ h → s ≡ r
    → ListComprehension e k n t g s ≡ ListComprehension f l m u h r
same_parts e f k l n m t u g h s r a b c d i j = rw (a, b, c, d, i, j) refl
