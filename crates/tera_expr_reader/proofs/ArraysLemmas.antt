-- Arrays that are read from their bracket on.
use Rattle.std.proofs.Common.{◌≡◌, ℕ, Bool, List, Option, Some, None, Result, sym, ap, subst, ◌∙◌}
use Rattle.tera_base.specs.Values.{Vals}
use Rattle.tera_base.specs.declared.utils.Span.{Span}
use Rattle.tera_base.specs.declared.errors.Error.{Error}
use Rattle.tera_lexer.specs.grammar.Tokens.{Items as Left}
use Rattle.tera_ast.specs.Tree as tree
use Rattle.tera_ast.specs.View.{expression_view}
use Rattle.tera_ast.specs.declared.ast.Expression.{Expression}
use Rattle.tera_grammar.specs.expressions.Marks.{RightBracket, For}
use Rattle.tera_grammar.specs.expressions.Marks as marks
use Rattle.tera_grammar.specs.expressions.Concrete.{Tree, Atomic, Array, of_items, ended, Element, plain, spread}
use Rattle.tera_grammar.specs.expressions.Output as output
use Rattle.tera_grammar.specs.expressions.Output.{array_made, constant_items}
use Rattle.tera_grammar.specs.expressions.Stack.{HeadGives}
use Rattle.tera_grammar.specs.Reads.{found, stopped, ◌>>=◌, given}
use Rattle.tera_grammar.specs.expressions.Reading.Front.{Place, at, Reads, takes, skip}
use Rattle.tera_grammar.specs.expressions.Reading.Rooms.{Room, inside_array}
use Rattle.tera_grammar.specs.expressions.Reading.Bracketed.{Reader, element_of}
use Rattle.tera_grammar.specs.expressions.Reading.Atoms.{array_of, array_at, array_from, for_at, items_from, comprehension_of}
use Rattle.tera_grammar.proofs.stops.Fronts.{none_skip, skip_taken}
use Rattle.tera_expr_parts.specs.Literals.{MayBeNegated}
use Rattle.tera_expr_reader.proofs.ItemsLemmas.{spread_read, plain_read}

pub no_room : (f : Reader) (w : Room) (s : Span) (p : Place) → inside_array w ≡ None → array_of f w s p ≡ stopped p.tokens
unfolding array_of
no_room f w s p h = ap (λ o. given p.tokens o >>= λ v. array_at f w v s p (skip RightBracket p)) h

module _ (f : Reader) (w v : Room) (s : Span) (i : ℕ) (r : Left) (room : inside_array w ≡ Some v) where
  opened : array_of f w s (at i r) ≡ array_at f w v s (at i r) (skip RightBracket (at i r))
  unfolding array_of
  opened = ap (λ o. given r o >>= λ v. array_at f w v s (at i r) (skip RightBracket (at i r))) room

  pub empty_read : (c : Span) (us : Left) → takes RightBracket r ≡ found (c, us) → array_of f w s (at i r) ≡ found (Atomic (Array s (ended c)), at i us)
  empty_read c us h = opened ∙ ap (array_at f w v s (at i r)) (skip_taken RightBracket i r us c h)

  module _ (none : takes RightBracket r ≡ stopped r) where
    abbrev from : Reads Element → Reads Tree
    from o = o >>= λ x. array_from f w v s x.0 x.1

    begins : array_of f w s (at i r) ≡ from (element_of f v of_items (at i r))
    begins = opened ∙ ap (array_at f w v s (at i r)) (none_skip RightBracket i r r none)

    -- from a spread on
    pub by_spread : (c : Span) (us : Left) → takes marks.Spread r ≡ found (c, us) → (o : Reads Tree) → f v 0 (at i us) ≡ o
        → array_of f w s (at i r) ≡ from (o >>= λ e. found (spread c e.0, e.1))
    by_spread c us mark o read = begins ∙ ap from (spread_read f v i r c us o mark read)

    -- from an item on
    module _ (mark : takes marks.Spread r ≡ stopped r) where
      pub by_plain : (o : Reads Tree) → f v 0 (at i r) ≡ o → array_of f w s (at i r) ≡ from (o >>= λ e. found (plain e.0, e.1))
      by_plain o read = begins ∙ ap from (plain_read f v i r o mark read)

      module _ (t : Tree) (j : ℕ) (ts : Left) (read : f v 0 (at i r) ≡ found (t, at j ts)) where
        pub by_for : (c : Span) (us : Left) → takes For ts ≡ found (c, us) → array_of f w s (at i r) ≡ comprehension_of f w s t c (at j us)
        by_for c us h = by_plain (found (t, at j ts)) read ∙ ap (for_at f w v s t (at j ts)) (skip_taken For j ts us c h)

        pub by_items : takes For ts ≡ stopped ts → array_of f w s (at i r) ≡ items_from f v s (plain t) (at j ts)
        by_items h = by_plain (found (t, at j ts)) read ∙ ap (for_at f w v s t (at j ts)) (none_skip For j ts ts h)

-- what reads the same gives the same
pub head_by : (result : Result Expression Error) (l m : Bool) (here : Span) (q : Place) (a b : Reads Tree) → m ≡ l → a ≡ b
    → HeadGives expression_view m result here q b → HeadGives expression_view l result here q a
head_by result l m here q a b same read h =
    subst (λ k. HeadGives expression_view k result here q a) same (subst (λ o. HeadGives expression_view m result here q o) (sym read) h)

-- no array and no comprehension is a number
made_negatable : (is : tree.Items) (span : Span) (o : Option Vals) → MayBeNegated (array_made is span o)
made_negatable is span (Some vs) = tt
made_negatable is span None = tt

pub array_negatable : (e : Expression) (is : tree.Items) (span : Span) → expression_view e ≡ output.array_of is span → MayBeNegated (expression_view e)
array_negatable e is span same = subst (λ x. MayBeNegated x) (sym same) (made_negatable is span (constant_items is))

pub comprehension_negatable : (e : Expression) (x : tree.Expr) (key : Option (List ℕ)) (value : List ℕ) (target : tree.Expr) (condition : tree.MaybeExpr) (span : Span)
    → expression_view e ≡ tree.ListComprehension x key value target condition span → MayBeNegated (expression_view e)
comprehension_negatable e x key value target condition span same = subst (λ x. MayBeNegated x) (sym same) tt
