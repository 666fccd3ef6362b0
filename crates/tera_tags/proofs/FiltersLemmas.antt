-- Filters in their loop.
use Rattle.std.proofs.Common.{◌≡◌, List, [], ◌∷◌, ◌++◌, map, sym, ap, ◌∙◌, append-nil, append_assoc, refl}
use Rattle.std.proofs.lemmas.List.{map-append}
use Rattle.std.specs.Prelude.{Bool}
use Rattle.tera_base.specs.declared.errors.Error.{Error}
use Rattle.tera_base.specs.declared.utils.Span.{Span}
use Rattle.tera_lexer.specs.grammar.Tokens.{Items}
use Rattle.tera_ast.specs.Tree.{Expr}
use Rattle.tera_ast.specs.View.{expression_view}
use Rattle.tera_ast.specs.declared.ast.Expression.{Expression}
use Rattle.tera_grammar.specs.Reads.{found, stopped, Fails}
use Rattle.tera_grammar.specs.expressions.Marks.{Bar}
use Rattle.tera_grammar.specs.expressions.Reading.Front.{takes}
use Rattle.tera_grammar.specs.statements.Expressions.{Filtering, Limits}
use Rattle.tera_grammar.specs.statements.Reading.Expressions.{filter_of}
use Rattle.tera_grammar.specs.statements.Heads.{Filters}
use Rattle.tera_grammar.specs.statements.Reading.Heads.{filters_of}
use Rattle.tera_grammar.specs.statements.Reading.Loops.{Piping}
use Rattle.tera_grammar.proofs.statements.Loops.{piping_ends, piping_on, piping_refused, piping_starts}
use Rattle.tera_tags.specs.Heads.{AreFilters}
use Rattle.tera_tags.specs.Reading.{IsFilter}
use Rattle.tera_expect.proofs.Steps.{failed_as}

module _ (l : Limits) (in_loop : Bool) where
  -- filters have been read so far
  abbrev pub Pipes : Items → Items → List Expression → List Expression → Type 0
  Pipes start here before filters = (es : List Expr) × Piping l in_loop start here es × (map expression_view filters ≡ map expression_view before ++ es)

  pub pipes_start : (start : Items) (before : List Expression) → Pipes start start before before
  pipes_start start before = ([], piping_starts l in_loop start start [] refl refl, sym (append-nil _))

  module _ (start here : Items) (before filters : List Expression) where
    -- a bar after what was read
    pub pipes_fail : (span : Span) (us left : Items) (e : Error) → Pipes start here before filters → takes Bar here ≡ found (span, us)
        → Fails (filter_of l in_loop us) left e → Fails (filters_of l in_loop start) left e
    pipes_fail span us left e (es, piping, shows) bar h =
        failed_as (filter_of l in_loop us) (filters_of l in_loop start) left e (λ z none. piping_refused l in_loop start here es piping (span, us) bar z none) h

    pub pipes_on : (span : Span) (us mid : Items) (x : Expression) (g : Filtering) (more : List Expression) → Pipes start here before filters → takes Bar here ≡ found (span, us)
        → filter_of l in_loop us ≡ found (g, mid) → IsFilter in_loop span x g → more ≡ filters ++ x ∷ [] → Pipes start mid before more
    pipes_on span us mid x g more (es, piping, shows) bar read is grown =
        let pushed = ap (map expression_view) grown ∙ map-append expression_view filters (x ∷ []) in
        let grows : List Expr = es ++ expression_view x ∷ [] in (
          grows,
          piping_on l in_loop start here es grows piping (span, us) bar (g, mid) read (ap (λ e. es ++ e ∷ []) is),
          pushed ∙ ap (λ v. v ++ expression_view x ∷ []) shows ∙ append_assoc _ es _,
        )

    -- no bar after it
    pub pipes_end : Pipes start here before filters → (z : Items) → takes Bar here ≡ stopped z → (fs : Filters) × (filters_of l in_loop start ≡ found (fs, here)) × AreFilters in_loop before filters fs
    pipes_end (es, piping, shows) z bar =
        let (fs, read, whole) = piping_ends l in_loop start here es piping z bar in
        (fs, read, shows ∙ ap (λ v. map expression_view before ++ v) whole)
